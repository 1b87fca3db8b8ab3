-- What is wrong and what to do about it, by the number of a fault: the rows of two tables.
use Rattle.std.specs.Prelude.{ℕ, Bool, List, [], ◌&&◌, get_or, map, nat_le}
use Rattle.ps_explained.specs.declared.sentences.TheConstants.{MEANINGS, REMEDIES}

-- what is wrong; nothing where there is no such fault
abbrev pub meaning_of : ℕ → List ℕ
meaning_of number = get_or (map (λ sentence. sentence.now) MEANINGS) number []

-- what to do about it
abbrev pub remedy_of : ℕ → List ℕ
remedy_of number = get_or (map (λ sentences. sentences.now) REMEDIES) number []

-- a byte that ASCII prints
abbrev pub is_printed : ℕ → Bool
is_printed byte = nat_le 32 byte && nat_le byte 126
