-- `Gate::refuses` at a call: what it is handed, and what a caller has of it. Assumes `Logic`.
use Rattle.std.proofs.Common.{◌≡◌, ℕ, ◌^◌, ◌<◌, List, [], ◌∷◌, Bool, refl, ap, w64}
use seplogic.Ra.Ura.{Ura}
use mir.Val.{Val, vbool, vint, vptr}
use base.Logic.{SProp, ent, sep, guard, ex, id⊢}
use base.Fml.{Lft, Share, ftrue, fsep, flft}
use prog.Memory.{Memory}
use prog.Routine.{Routine}
use types.Logic.{Logic, sem}
use contract.Monad.{Fun}
use types.Kit.{‵, raw, ◌⊛◌, some, later, ◌$◌, ◌∵◌, !, qed, move, keep, use1, split, join, pick, fjoin, feq_i, feq_l, flt_i, check, show, await, updating, now as at_once, done}
use denote.RattleType.{RattleType}
use denote.Memory.{hidden_shr}
use denote.Builtin.{bool}
use denote.Steps.{nothing, only}
use denote.Triple.Statement.{Contract}
use denote.Triple.Spec.{triple_of}
use Rattle.refusing.specs.contracts.Gate as GA
use Rattle.refusing.specs.contracts.Gate.refuses as RE

abbrev pub GateRow : RattleType
GateRow = GA.the_row

module _ {M : Type 1} {𝓤 : Ura M} (𝓛 : Logic 𝓤) (at_mem : Memory → SProp 𝓤)
    (run : Routine → Fun 𝓤) where
  abbrev pub Refuses : Contract 𝓤
  Refuses = triple_of 𝓛 RE.signature (RE.spec 𝓛 at_mem run)

  abbrev pub at_refuses : Lft → Share → ℕ × ℕ → GateRow.Denot → ℕ → Refuses.Ghost
  at_refuses κ q c gate n = (
    (
      (κ, tt),
      (q, tt),
      tt,
      (record { ref_ptr = c; now = gate }, (n, tt)),
      (vptr c.0 c.1 ∷ [], (vint w64 n ∷ [], tt)),
    ),
    tt,
  )

module _ {M : Type 1} {𝓤 : Ura M} (𝓛 : Logic 𝓤) (at_mem : Memory → SProp 𝓤)
    (run : Routine → Fun 𝓤) (κ : Lft) (q : Share) (c : ℕ × ℕ) (gate : GateRow.Denot)
    (n : ℕ) where
  open 𝓛 use {H, A}

  pub Refuses-goes : n < 2 ^ 64 → ent 𝓤
      (sep 𝓤 (sem 𝓛 (hidden_shr GateRow κ gate c.0 c.1)) (A.lft κ q))
      ((Refuses 𝓛 at_mem run).pre (at_refuses 𝓛 at_mem run κ q c gate n))
  Refuses-goes fits =
      qed 𝓛 (‵ (hidden_shr GateRow κ gate c.0 c.1) ∷ ‵ (flft κ q) ∷ []) ∵
      nothing ! $ flt_i ! n (2 ^ 64) fits $ feq_i ! (List Val) (vint w64 n ∷ [])
      (vint w64 n ∷ []) refl $ fjoin ! $ fjoin ! $ move ! (1 ∷ []) $ feq_i ! (List Val)
      (vptr c.0 c.1 ∷ []) (vptr c.0 c.1 ∷ []) refl $ fjoin ! $
      fjoin ! $ nothing ! $ move ! (2 ∷ []) $ join ! $ join ! $ nothing ! $ move !
      (1 ∷ []) $ done !

  pub Refuses-gives : (v : Val) → ent 𝓤
      ((Refuses 𝓛 at_mem run).post (at_refuses 𝓛 at_mem run κ q c gate n) v)
      (H.⇛ (ex 𝓤 (λ (r : Bool). guard 𝓤 (v ≡ vbool r) (A.lft κ q))))
  Refuses-gives v =
      qed 𝓛 (raw ((Refuses 𝓛 at_mem run).post (at_refuses 𝓛 at_mem run κ q c gate n) v)
      ∷ []) ∵ updating ! $
      use1 𝓛 (later (some (λ (r : Bool).
      ((‵ (flft κ q) ⊛ ‵ ftrue) ⊛ ‵ (bool.own_val r (v ∷ []))) ⊛ some
      (λ (ws : Unit {0} × (Unit {0} × Unit {0})). ‵
      (fsep ftrue (fsep ftrue ftrue)) ⊛ ‵ ftrue)))) (id⊢ 𝓤 _) $ await ! tt $ pick !
      (λ r.
      split ! $ split ! $ move ! (1 ∷ []) $ feq_l !
      (λ e. split ! $ at_once ! $ show !
      (λ (b : Bool). guard 𝓤 (v ≡ vbool b) (A.lft κ q)) r $ check ! (ap only e) $ keep !
      (0 ∷ []) $ done !))
