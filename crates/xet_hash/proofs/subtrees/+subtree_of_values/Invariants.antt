use Rattle.xet_hash.proofs.subtrees.+subtree_of_values.Given as goal

abbrev pub decreases-subtree_of_values : goal.decreases-subtree_of_values
decreases-subtree_of_values l = l.level
