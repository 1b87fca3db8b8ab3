-- The file that a plan of a link stands for, and what a plan is owed so that it can be written.
use Rattle.std.specs.Prelude.{◌≡◌, ℕ, ◌+◌, ◌<◌, ◌≤◌, List, [], ◌∷◌, ◌++◌, length, map, All, ⊤}
use Rattle.ps_words.specs.Edits.{AreEdits}
use Rattle.ps_words.specs.declared.order.Order.{Order}
use Rattle.ps_words.specs.declared.edit.Edit.{Edit}
use Rattle.ps_codefile.specs.Dictionary.{block_len}
use Rattle.ps_codefile.specs.declared.code_layout.TheConstants.{MAX_CODE_LEN}
use Rattle.ps_resolve.specs.Plans.{Planned}
use Rattle.ps_resolve.specs.Sources.{Segment}
use Rattle.ps_linkfile.specs.LinkedFile.{all_blocks, block_of, dictionary, padded_code, LinkedFile, summary_of}
use Rattle.ps_linkfile.specs.declared.summary.Summary.{Summary}
use Rattle.ps_codefile.specs.declared.dictionary_layout.TheConstants.{SLOT_COUNT, SLOTS}

-- the code of each source with its edits, in whole blocks
abbrev pub padded_codes : Order → List Segment → List (List Edit) → List ℕ
padded_codes order [] edits = []
padded_codes order (o ∷ os) [] = []
padded_codes order (o ∷ os) (edits ∷ rest) =
    padded_code order o.code edits ++ padded_codes order os rest

-- the file that is written
abbrev pub file_in : Planned → List ℕ
file_in plan = dictionary plan.order plan.names plan.host plan.sources
    ++ padded_codes plan.order plan.sources plan.edits

-- the summary of what is written: the plan's sources, its private words, and the blocks, the
-- dictionary's counted
abbrev pub summary_in : Planned → Summary
summary_in plan = record {
  segments = length plan.sources;
  private_words = plan.private_words;
  blocks = 1 + all_blocks plan.sources;
}

-- the plan stands for the linked file of these inputs
pub record StandsFor (host : List ℕ) (libs : List (List ℕ)) (plan : Planned) : Type 0 where
  pub file : LinkedFile host libs (file_in plan)
  pub summary : summary_in plan ≡ summary_of host libs

-- slots of a dictionary, each above the one before it
abbrev pub Ascend : ℕ → List Segment → Type 0
Ascend from [] = ⊤
Ascend from (o ∷ os) = (from ≤ o.slot) × (o.slot < SLOTS) × Ascend (o.slot + 1) os

-- each code has its own edits
abbrev pub HaveEdits : List Segment → List (List Edit) → Type 0
HaveEdits [] [] = ⊤
HaveEdits [] (edits ∷ rest) = ⊥
HaveEdits (o ∷ os) [] = ⊥
HaveEdits (o ∷ os) (edits ∷ rest) = AreEdits (length o.code) edits × HaveEdits os rest

-- a plan that can be written: a whole dictionary, sixteen names, each slot once, codes of at most
-- MAX_CODE_LEN bytes, and edits inside them
pub record IsReady (plan : Planned) : Type 0 where
  pub host : block_len ≤ length plan.host
  pub names : length plan.names ≡ SLOT_COUNT
  pub slots : Ascend 0 plan.sources
  pub sizes : All (λ o. length o.code ≤ MAX_CODE_LEN) plan.sources
  pub edits : HaveEdits plan.sources plan.edits

-- the first block of each code
abbrev pub starts_of : List Segment → List ℕ
starts_of segs = map (λ s. block_of segs s.slot) segs
