-- Cases that pin what a script is: one with nothing, one of a file, an address and a call, and the same cut short and running on.
use Rattle.std.specs.Prelude.{◌≡◌, ◌∷◌, ◌++◌}
use Rattle.kit.specs.Names.{refl, true, false, List, [], ℕ, take}
use Rattle.rehearse_scripts.specs.Scripts.{is_script, calls_end, numbers_at, file_of, addresses_of, arguments_of}

-- A file of 3 bytes, address 9, party 4, and function 2 called by 5 with the argument 1 + 256 * 1.
abbrev sample : List ℕ
sample = 3 ∷ 0 ∷ 7 ∷ 8 ∷ 9 ∷ 1 ∷ 9 ∷ 4 ∷ 1 ∷ 2 ∷ 5 ∷ 1 ∷ 1 ∷ 1 ∷ 0 ∷ 0 ∷ []

empty_script : is_script (0 ∷ 0 ∷ 0 ∷ 0 ∷ 0 ∷ []) ≡ true
unfolding is_script calls_end
empty_script = refl

sample_script : is_script sample ≡ true
unfolding is_script calls_end
sample_script = refl

cut_short : is_script (take 15 sample) ≡ false
unfolding is_script calls_end
cut_short = refl

running_on : is_script (sample ++ (0 ∷ [])) ≡ false
unfolding is_script calls_end
running_on = refl

sample_file : file_of sample ≡ 7 ∷ 8 ∷ 9 ∷ []
unfolding file_of is_script calls_end
sample_file = refl

sample_addresses : addresses_of sample ≡ 9 ∷ []
unfolding addresses_of is_script calls_end
sample_addresses = refl

sample_arguments : arguments_of sample 0 ≡ 257 ∷ []
unfolding calls_end numbers_at
sample_arguments = refl
