-- What holds of each row of a table of sentences.
use Rattle.std.proofs.Common.{◌≡◌, ◌≤◌, ℕ, Bool, List, [], length, map, refl, true}
use Rattle.std.specs.Prelude.{nat_le}
use Rattle.std.specs.List.{list_all}
use Rattle.std.proofs.lemmas.Bool.{leb-true}
use Rattle.ps_explained.specs.Sentences.{is_printed, meaning_of, remedy_of}
use Rattle.ps_lists.proofs.Tests.{all_at}
use Rattle.ps_explained.specs.declared.sentences.TheConstants.{MEANINGS, REMEDIES, SENTENCE_LEN}

abbrev is_short : List ℕ → Bool
is_short text = nat_le (length text) SENTENCE_LEN

-- the sentences are short
pub meaning_short : (text : List ℕ) (n : ℕ) → text ≡ meaning_of n
    → length text ≤ SENTENCE_LEN
meaning_short text n is = rw is (leb-true _ SENTENCE_LEN
    (all_at is_short (map (λ row. row.now) MEANINGS) n [] refl refl))

pub remedy_short : (text : List ℕ) (n : ℕ) → text ≡ remedy_of n
    → length text ≤ SENTENCE_LEN
remedy_short text n is = rw is (leb-true _ SENTENCE_LEN
    (all_at is_short (map (λ row. row.now) REMEDIES) n [] refl refl))

-- a meaning is of printed characters
pub meaning_printed : (text : List ℕ) (n : ℕ) → text ≡ meaning_of n
    → list_all is_printed text ≡ true
meaning_printed text n is =
    rw is (all_at (list_all is_printed) (map (λ row. row.now) MEANINGS) n [] refl refl)

pub remedy_printed : (text : List ℕ) (n : ℕ) → text ≡ remedy_of n
    → list_all is_printed text ≡ true
remedy_printed text n is =
    rw is (all_at (list_all is_printed) (map (λ row. row.now) REMEDIES) n [] refl refl)
