pub mod Fragmentation
