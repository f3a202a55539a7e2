pub mod OpenBlock
