mod Plans
mod RangeRows
mod Recording
