use Rattle.xet_cut.proofs.Steps.{step_ended, step_progress, step_split, step_within}
use Rattle.xet_cut.proofs.laws.steps_split.Goals as goal

pub returns-clause-within : goal.returns-clause-within
returns-clause-within c = λ s buffered new last order. step_within s buffered new last order

pub returns-clause-more : goal.returns-clause-more
returns-clause-more c = λ s buffered new some order none. step_split s buffered new some order none

pub returns-clause-last : goal.returns-clause-last
returns-clause-last c = λ s buffered new some order none. step_ended s buffered new some order none

pub returns-clause-progress : goal.returns-clause-progress
returns-clause-progress c = λ s buffered new order none chunk returned. step_progress s buffered new order none chunk returned
