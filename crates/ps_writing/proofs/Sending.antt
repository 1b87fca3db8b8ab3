-- Text that is gathered in front of a writer, and sent to it.
use Rattle.std.proofs.Common.{arith, ◌≡◌, ℕ, List, [], ◌++◌, true, false, Option, Some, None, append_assoc, append-nil, sym}
use Rattle.ps_writing.proofs.Vocabulary.{is_some, Appends, AppendsPrefix, WriteFault}
use Rattle.std.proofs.lemmas.Bool.{false≢true}
use Rattle.ps_writing.specs.Adding.{IsSent}
use Rattle.ps_writing.proofs.Prefixes.{appends_twice, prefix_last, prefix_then}

-- some of what was gathered and of these bytes was sent, and the rest is gathered
abbrev pub Sends : Option (List ℕ) → Option (List ℕ) → List ℕ → List ℕ → List ℕ
    → Type 0
Sends old new gathered bytes rest = (sent : List ℕ) × Appends old new sent
    × (sent ++ rest ≡ gathered ++ bytes)

-- what was gathered and these bytes are sent
pub sends_both : (a b c : Option (List ℕ)) (gathered bytes none : List ℕ)
    → Appends a b gathered → none ≡ [] → Appends b c bytes → Sends a c gathered bytes none
sends_both a b c gathered bytes none h e k = grind (arith, appends_twice, append-nil)

module _ (first old new : Option (List ℕ)) (text gathered bytes : List ℕ) where
  -- where no write has failed, the text that was added grows by the bytes
  pub sent_more : (rest : List ℕ) (fault : Option WriteFault) → is_some fault ≡ false
      → IsSent first text old gathered fault → Sends old new gathered bytes rest
      → IsSent first (text ++ bytes) new rest fault
  sent_more rest fault h1 h2 h3 = grind (arith, appends_twice, append_assoc, false≢true)

  -- where a write fails, a prefix of all was sent
  pub sent_prefix : (fault : Option WriteFault) → is_some fault ≡ false
      → IsSent first text old gathered fault → AppendsPrefix old new (gathered ++ bytes)
      → AppendsPrefix first new (text ++ bytes)
  sent_prefix None e h k = rw (← append_assoc h.0 gathered bytes, h.2) at
      (prefix_last first old new h.0 (gathered ++ bytes) h.1 k)
  sent_prefix (Some fault) e h k = absurd (false≢true (sym e))

  -- the text is sent after a writer that had not failed took more bytes, or failed
  pub sent_after : (rest : List ℕ) (before after : Option WriteFault) → is_some before ≡ false
      → IsSent first text old gathered before → IsSent old (gathered ++ bytes) new rest after
      → IsSent first (text ++ bytes) new rest after
  sent_after rest None None e h k = sent_more rest None e h k
  sent_after rest None (Some fault) e h k = sent_prefix None e h k
  sent_after rest (Some fault) after e h k = absurd (false≢true (sym e))

module _ (first mid last : Option (List ℕ)) (text gathered : List ℕ) where
  -- what was gathered at the end is sent, or a prefix of it
  pub sent_all : IsSent first text mid gathered None
      → Appends mid last gathered → Appends first last text
  sent_all h k = rw h.2 at (appends_twice first mid last h.0 gathered h.1 k)

  pub sent_front : IsSent first text mid gathered None
      → AppendsPrefix mid last gathered → AppendsPrefix first last text
  sent_front h k = rw h.2 at (prefix_last first mid last h.0 gathered h.1 k)

-- where a write has failed, what is added is not sent
pub sent_no_more : (first now : Option (List ℕ)) (text gathered bytes : List ℕ)
    (fault : Option WriteFault) → is_some fault ≡ true → IsSent first text now gathered fault
    → IsSent first (text ++ bytes) now gathered fault
sent_no_more first now text gathered bytes None e h = absurd (false≢true e)
sent_no_more first now text gathered bytes (Some fault) e h = prefix_then first now text bytes h
