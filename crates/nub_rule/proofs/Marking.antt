-- An event by a step on no mutex's bit, no queue, no ready word and not the pen: what is left to show is its row, that words and views show the new state, who saw an alert, and who is owed a wake.
use Rattle.std.proofs.Common.{Bool, ◌≡◌, ◌≢◌, ℕ, ◌+◌, ◌<◌, List, [], ◌∷◌, ◌++◌, length, set, refl, sym, ap, ◌∙◌, subst, length-set, length-append}
use mathlib.Core.Option.{Option, some}
use lib.ListN.{get_elem?}
use Rattle.larch_actions.specs.declared.event.Event.{Event}
use Rattle.larch_actions.specs.declared.event.Layout.{Layout}
use Rattle.larch_actions.specs.Actions.{Spec, at_first, Acts, by_thread}
use Rattle.larch_actions.specs.Layout.{IsNamed}
use Rattle.atomic_table.proofs.Lists.{set_here}
use Rattle.nub_rule.specs.declared.rule.Slot.{Slot}
use Rattle.nub_rule.specs.declared.view.Part.{Part}
use Rattle.nub_rule.specs.Items.{Shows, Pens, AlertSeen, Lives, Core}
use Rattle.nub_rule.specs.Owed.{WakeOwed}
use Rattle.nub_rule.specs.Begun.{BegunWaits}
use Rattle.nub_rule.specs.Stints.{Stinted}
use Rattle.nub_rule.specs.Parts.{made, MayRecord}
use Rattle.nub_rule.specs.Places.{most_threads, bit_at, spin_at, length_at, ready_at, pen_at, number_at}
use Rattle.nub_rule.specs.Plays.{Grows}
use Rattle.nub_rule.proofs.Each.{at_within}
use Rattle.nub_rule.proofs.Runs.{leads-snoc, run-of}
use Rattle.nub_rule.proofs.Frames.{bits-stay, spins-stay, ready-stay, pen-stay, sizes-frame, recorded-event, owned-frame, spins-frame, lines-frame}
use Rattle.nub_rule.proofs.Penning.{pens-event, numbered-by}

-- the word i is none that the items read other than the meaning of the words, the alerts seen and the owed wakes
pub record Aside (i : ℕ) : Type 0 where
  pub bits : (m : ℕ) → m < 64 → bit_at m ≢ i
  pub spins : (o : ℕ) → o < 192 → spin_at o ≢ i
  pub lengths : (o : ℕ) → o < 192 → length_at o ≢ i
  pub ready : (t : ℕ) → t < most_threads → ready_at t ≢ i
  pub pen : pen_at ≢ i
  pub number : number_at ≢ i

module _ {T H : Type 0} where
  -- the part after an event of its thread, in which the bits, values, queues and stands are the same
  pub record IsRecorded (p q : Part T H) (log : List Event) (e : Event) : Type 0 where
    pub version : q.version ≡ p.version
    pub seen : q.seen ≡ log ++ e ∷ []
    pub mine : q.mine ≡ p.mine ++ e ∷ []
    pub places : q.places ≡ p.places ++ length log ∷ []
    pub held : q.held ≡ p.held
    pub share : q.share ≡ p.share
    pub spin : q.spin ≡ p.spin
    pub queue : q.queue ≡ p.queue
    pub owed : q.owed ≡ p.owed
    pub stand : q.stand ≡ p.stand
    pub pen : q.pen ≡ made p.pen

  -- what the thread n learns by the event e
  abbrev pub Learns : Event → ℕ → Part T H → (List Event → Part T H) → Part T H → Type 0
  Learns e n p after q = (between : List Event) × Grows n p between e × (q ≡ after (p.seen ++ between))

module _ {T H W : Type 0} (l : Layout) (traced : Bool) (w : W) (holds : W → List T → List H → Type 0) where
  -- the items hold after the word i became x by the event e of the thread n, and the thread has learnt it
  abbrev pub Marked : Event → ℕ → ℕ → ℕ → Part T H → (List Event → Part T H) → List ℕ → List (Option (Slot T)) → List (Part T H) → Type 0
  Marked e n i x p after words homes all = (q : Part T H) × Core l traced w holds (set words i x) homes (set all n q) × Learns e n p after q

  pub marks : (e : Event) (n i x : ℕ) (p : Part T H) (after : List Event → Part T H) (words : List ℕ) (homes : List (Option (Slot T))) (all : List (Part T H)) (c : Core l traced w holds words homes all) (spec' : Spec) → get_elem? all n ≡ some p → e.thread.0 ≡ n → IsNamed l e.action → MayRecord traced p.life p.pen → Aside i
      → ((z : List Event) → IsRecorded p (after z) z e) → Acts c.spec e spec' → ((z : List Event) → Shows (set words i x) c.spinner c.queue c.owner spec' (set all n (after z)))
      → ((z : List Event) → AlertSeen (set words i x) (set all n (after z))) → ((z : List Event) → Lives (set words i x) (set all n (after z))) → ((z : List Event) → WakeOwed c.queue (set words i x) (set all n (after z))) → ((z : List Event) → BegunWaits (set words i x) (set all n (after z))) → ((z : List Event) → Stinted (holds w) (c.log ++ e ∷ []) c.owner c.values c.shares (set all n (after z))) → Marked e n i x p after words homes all
  marks e n i x p after words homes all c spec' at by named may aside records acts shows saw lives owes begun stinted =
      let seen = (c.recorded.each n p at).begins in
      let z : List Event = p.seen ++ seen.0 in
      let q : Part T H = after z in
      let t = records z in
      let longer : q.seen ≡ c.log ++ e ∷ [] = t.seen ∙ ap (λ (y : List Event). y ++ e ∷ []) (sym seen.1) in
      let placed : q.places ≡ p.places ++ length c.log ∷ [] = t.places ∙ ap (λ (y : List Event). p.places ++ length y ∷ []) (sym seen.1) in
      let run = leads-snoc (at_first l.version) c.log c.spec e spec' c.run acts in
      let recorded' = recorded-event all n p q at l c.log e by named longer t.mine placed c.recorded in
      let words' : List ℕ = set words i x in
      let more : length (c.log ++ e ∷ []) ≡ length c.log + 1 = length-append c.log (e ∷ []) in
      let pen = pen-stay words i x aside.pen aside.number in (
        q,
        record {
          log = c.log ++ e ∷ [];
          spec = spec';
          owner = c.owner;
          spinner = c.spinner;
          writer = c.writer;
          queue = c.queue;
          owed = c.owed;
          values = c.values;
          shares = c.shares;
          sizes = sizes-frame all n p q at l words words' homes homes (length-set words i x) refl t.version (ap length t.held) c.sizes;
          run = run;
          recorded = recorded';
          owned = owned-frame all n p q at l (holds w) c.owner c.values c.shares words words' homes homes c.sizes.lawful (bits-stay words i x aside.bits) (λ m. refl) t.held t.share c.owned;
          spins = spins-frame all n p q at c.spinner c.queue c.owed words words' homes homes (spins-stay words i x aside.spins aside.lengths) (λ k lo. refl) t.spin t.queue t.owed c.spins;
          lines = lines-frame all n p q at (λ k. c.owed k ++ c.queue k) words words' c.sizes.few (ready-stay words i x aside.ready) t.stand c.lines;
          shows = shows z;
          pens = subst (λ (y : ℕ). Pens traced y words' c.writer (set all n q)) (sym more) (pens-event traced (length c.log) words c.writer all n p q at words' pen.0 pen.1 may t.pen c.pens);
          alert_seen = saw z;
          lives = lives z;
          owes = owes z;
          begun = begun z;
          stinted = stinted z;
        },
        (
          seen.0,
          record {
            legal = (spec', run-of l.version p.version (c.sizes.versions n p at) spec' (sym longer ∙ t.seen) run);
            own = ap (by_thread n) (sym t.seen ∙ longer) ∙ ((recorded'.each n q (set_here all n q (at_within all n p at))).own ∙ t.mine);
            number = λ k is. numbered-by traced (length c.log) words c.writer all n p q at c.pens k is ∙ ap (λ (y : List Event). length y) seen.1;
          },
          refl,
        ),
      )
