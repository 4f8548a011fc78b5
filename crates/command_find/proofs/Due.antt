-- One way to end is due on an input that tells its bytes.
use Rattle.std.proofs.Common.{◌≡◌, ◌≢◌, ◌⊎◌, inl, inr, ℕ, ◌-◌, ◌≤◌, List, length, Some, refl, sym, subst, arith}
use Rattle.std.specs.Prelude.{IfSome}
use Rattle.std.specs.declared.option.Option.{Option}
use Rattle.exact_text.specs.declared.fault.TextFault.TheVariants as fault
use Rattle.exact_text.specs.Exact.{IsShown, IsTooLong, OneAnswer, bytes_room}
use Rattle.exact_text.proofs.Shown.{one_answer}
use Rattle.index_text.specs.Texts.{ReadsAs, IsIndexText}
use Rattle.word_index.specs.Index.{Row}
use Rattle.index_find.specs.Tree.{Tree}
use Rattle.command_endings.specs.declared.status.Status.{Status}
use Rattle.command_endings.specs.declared.status.Status.TheVariants.{Done, Usage, ReadFault, SinkFault, Stopped, Memory, Illegal, BadText, TooMany, TooLong}
use Rattle.command_endings.specs.Changes.{Change}
use Rattle.command_find.specs.Find.{IsTextOf, Fails, EndsBy, IsDue}

module _ (most : ℕ) (bytes : List ℕ) where
  one : OneAnswer IsIndexText (bytes_room most)
  one = one_answer IsIndexText (bytes_room most)

  due_done : (t : Status) → IsDue most bytes Done → IsDue most bytes t → Done ≡ t
  due_done Done h g = refl
  due_done BadText h g = absurd (one.text_or_bad bytes g.0 h.1 h.0 g.1)
  due_done TooLong h g = absurd (one.text_or_long bytes h.0 g)
  due_done t h g = absurd g

  due_bad : (t : Status) → IsDue most bytes BadText → IsDue most bytes t → BadText ≡ t
  due_bad Done h g = absurd (one.text_or_bad bytes h.0 g.1 g.0 h.1)
  due_bad BadText h g = refl
  due_bad TooLong h g = absurd (one.bad_or_long bytes h.0 h.1 g)
  due_bad t h g = absurd g

  due_long : (t : Status) → IsDue most bytes TooLong → IsDue most bytes t → TooLong ≡ t
  due_long Done h g = absurd (one.text_or_long bytes g.0 h)
  due_long BadText h g = absurd (one.bad_or_long bytes g.0 g.1 h)
  due_long TooLong h g = refl
  due_long t h g = absurd g

-- the input is a text
text_due : (most : ℕ) (input : Change) (bytes : List ℕ) (rows : List Row) → input.old ≡ Some bytes → IsTextOf most input rows → IsDue most bytes Done
text_due most input bytes rows e h =
    let r = subst (λ (o : Option (List ℕ)). IfSome o (λ b. (length b ≤ most) × ReadsAs b rows h.0)) e h.1 in
    (r.0, (rows, h.0, r.1))

bad_due : (most : ℕ) (input : Change) (bytes : List ℕ) (k : ℕ) → input.old ≡ Some bytes → Fails most input (fault.BadLine k) → IsDue most bytes BadText
bad_due most input bytes k e h = let same : k - 0 ≡ k = omega arith in (k, subst (λ (j : ℕ). IsShown IsIndexText most bytes j) same (subst (λ (o : Option (List ℕ)). IfSome o (λ b. IsShown IsIndexText most b (k - 0))) e h.1))

long_due : (most : ℕ) (input : Change) (bytes : List ℕ) → input.old ≡ Some bytes → Fails most input fault.TooLong → IsDue most bytes TooLong
long_due most input bytes e h = subst (λ (o : Option (List ℕ)). IfSome o (λ b. IsTooLong IsIndexText most b)) e h

-- the status is the one that is due
pub decided : (most : ℕ) (tree : Tree) (input out notes : Change) (status : Status) → EndsBy most tree input out notes status → (bytes : List ℕ) (due : Status) → input.old ≡ Some bytes
    → status ≢ Memory → status ≢ ReadFault → IsDue most bytes due → (status ≡ due) ⊎ ((due ≡ Done) × (status ≡ SinkFault))
decided most tree input out notes Done h bytes due e m r g = inl (due_done most bytes due (text_due most input bytes h.1.rows e h.1.read) g)
decided most tree input out notes SinkFault h bytes due e m r g = inr (sym (due_done most bytes due (text_due most input bytes h.1.rows e h.1.read) g), refl)
decided most tree input out notes BadText h bytes due e m r g = inl (due_bad most bytes due (bad_due most input bytes h.0 e h.1) g)
decided most tree input out notes TooLong h bytes due e m r g = inl (due_long most bytes due (long_due most input bytes e h.0) g)
decided most tree input out notes Memory h bytes due e m r g = absurd (m refl)
decided most tree input out notes ReadFault h bytes due e m r g = absurd (r refl)
decided most tree input out notes _ h bytes due e m r g = absurd h
