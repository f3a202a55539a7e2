mod CanMerge
mod InPlace
