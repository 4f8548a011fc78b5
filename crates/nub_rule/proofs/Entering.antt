-- The first part of a wait, plain or alertable, as contracts see it.
use Rattle.std.proofs.Common.{Bool, ◌≡◌, ℕ, List, [], ◌∷◌, ◌++◌, length, refl, ◌∙◌, subst, Some}
use Rattle.larch_actions.specs.declared.event.Event.{Event}
use Rattle.atomic_table.specs.Seated.{TableId}
use Rattle.nub_rule.specs.declared.package.Entry.{Entry}
use Rattle.nub_rule.specs.Known.{Known, known_as, IsThread, Makes, Space}
use Rattle.nub_rule.specs.Parts.{made}
use Rattle.nub_rule.specs.Places.{value_at}
use Rattle.nub_rule.specs.Plays.{Sat, Grows, recorded, with_part, begun_wait, enqueue_event}
use Rattle.nub_rule.specs.Slots.{find, IsDistinct, Below}
use Rattle.nub_rule.proofs.Handling.{hands-same, values-same}
use Rattle.nub_rule.proofs.Seen.{as_known, fit_moved}
use Rattle.nub_rule.proofs.Turns.{keys}

module _ {T H W : Type 0} (alertable : Bool) (m o r : ℕ) where
  -- the thread is one still, and has made its event and begun the wait with the count r
  pub record Entered (z z' : TableId) (n : ℕ) (hand : List ℕ) (me me' : Sat T H W) (kept : List T) (room : ℕ) : Type 0 where
    pub fits : IsThread z' n hand me' kept room
    pub makes : (es : List Entry) (lo : Space) (nx : ℕ) (a : Known T H W) → known_as z n me es lo nx ≡ a → Makes (enqueue_event alertable a.number m o) a (known_as z' n me' es lo nx)
    pub sees : (es : List Entry) (lo : Space) (nx : ℕ) (a : Known T H W) → known_as z n me es lo nx ≡ a → (let k = known_as z' n me' es lo nx in k ≡ record a { part = record a.part { seen = k.seen; mine = k.mine; places = k.places; wait = Some (begun_wait alertable m o r); pen = made a.pen } })

  pub entered : (u : List Event) (z z' : TableId) (n : ℕ) (hand hand' : List ℕ) (me front me' : Sat T H W) {kept : List T} {room : ℕ} → IsThread z n hand me kept room → front.0 ≡ me.0 → keys front.1 ≡ hand' → IsDistinct front.1 → Below 256 front.1 → ((k : ℕ) → find k front.1 ≡ find k me.1) → z' ≡ z
      → Grows front.0.number front.0.part u (enqueue_event alertable front.0.number m o)
      → me' ≡ (with_part front.0 (record (recorded front.0.part (front.0.part.seen ++ u) (enqueue_event alertable front.0.number m o)) { wait = Some (begun_wait alertable m o r) }), front.1)
      → Entered z z' n hand' me me' kept room
  entered u z z' n hand hand' me front me' i same keyed distinct below found ez grows is =
      let h = i.hands in
      let p = me.0.part in
      let now = is ∙ (λ j. (with_part (same j) (record (recorded (same j).part ((same j).part.seen ++ u) (enqueue_event alertable (same j).number m o)) { wait = Some (begun_wait alertable m o r) }), front.1)) in
      let v = values-same me.1 front.1 (λ k. found (value_at k)) in record {
        fits = fit_moved z z' n hand hand' me me' _ front.1 ez now i keyed distinct below refl (hands-same p _ me.1 front.1 (λ k. found k) refl refl refl h.room h.settled h);
        makes = λ es lo nx a known. as_known (λ z m' a. Makes (enqueue_event alertable a.number m o) a (known_as z n m' es lo nx)) z z' n es lo me me' _ a known ez now
            (u, subst (λ (n : ℕ). Grows n p u (enqueue_event alertable n m o)) i.numbered (subst (λ v. Grows v.number v.part u (enqueue_event alertable v.number m o)) same grows), (λ j. (p.seen ++ u) ++ enqueue_event alertable (i.numbered j) m o ∷ []), (λ j. p.mine ++ enqueue_event alertable (i.numbered j) m o ∷ []), refl);
        sees = λ es lo nx a known. as_known (λ z m' a. let k = known_as z n m' es lo nx in k ≡ record a { part = record a.part { seen = k.seen; mine = k.mine; places = k.places; wait = Some (begun_wait alertable m o r); pen = made a.pen } }) z z' n es lo me me' _ a known ez now
            (λ j. record (known_as z n me es lo nx) { part = record me.0.part { seen = (p.seen ++ u) ++ enqueue_event alertable me.0.number m o ∷ []; mine = p.mine ++ enqueue_event alertable me.0.number m o ∷ []; places = p.places ++ length (p.seen ++ u) ∷ []; wait = Some (begun_wait alertable m o r); pen = made p.pen }; values = v j });
      }
