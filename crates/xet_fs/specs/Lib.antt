pub mod FolderNames
pub mod InputCounts
