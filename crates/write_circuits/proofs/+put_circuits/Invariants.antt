-- `write_circuits::put_circuits` meets its contract, by recursion with the entries left falling.
-- What is put for a claim stands above the other answers: another root, or numbers in another place, are refused here first.
use Rattle.write_circuits.proofs.+put_circuits.Given as goal

abbrev pub decreases-put_circuits : goal.decreases-put_circuits
decreases-put_circuits l = l.run.left
