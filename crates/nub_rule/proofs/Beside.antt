-- A step that makes no event and changes no mutex's bit, value or share; and what never changes.
use Rattle.std.proofs.Common.{Bool, ◌≡◌, ℕ, List, ◌++◌, length, get_or, set, refl, sym, ap, subst}
use mathlib.Core.Option.{Option, some}
use lib.ListN.{get_elem?}
use lib.Seq.{set-get_or}
use Rattle.atomic_table.proofs.Lists.{set_again}
use Rattle.larch_actions.specs.declared.event.Layout.{Layout}
use Rattle.nub_rule.specs.declared.rule.Slot.{Slot}
use Rattle.nub_rule.specs.declared.view.Part.{Part}
use Rattle.nub_rule.specs.Items.{Spins, Lines, Shows, Pens, AlertSeen, Core}
use Rattle.nub_rule.specs.Owed.{WakeOwed}
use Rattle.nub_rule.specs.Begun.{BegunWaits}
use Rattle.nub_rule.specs.Parts.{closing_on}
use Rattle.nub_rule.specs.Places.{value_at}
use Rattle.nub_rule.proofs.Stinting.{stinted-frame}
use Rattle.nub_rule.proofs.Frames.{SameBits, SameLives, lives-frame, sizes-frame, recorded-frame, owned-frame, spins-frame, shows-frame, pens-frame}

module _ {T H W : Type 0} (l : Layout) (traced : Bool) (w : W) (holds : W → List T → List H → Type 0) where
  -- the parts of p that the history, the mutexes and their values read are those of q
  pub record Alike (p q : Part T H) : Type 0 where
    pub version : q.version ≡ p.version
    pub life : q.life ≡ p.life
    pub seen : q.seen ≡ p.seen
    pub mine : q.mine ≡ p.mine
    pub places : q.places ≡ p.places
    pub held : q.held ≡ p.held
    pub share : q.share ≡ p.share
    pub stints : q.stints ≡ p.stints
    pub closing : (m : ℕ) → closing_on q.wait m ≡ closing_on p.wait m

  module _ (words words' : List ℕ) (homes homes' : List (Option (Slot T))) (all : List (Part T H)) (n : ℕ) (p q : Part T H) (at : get_elem? all n ≡ some p) where
    pub beside : length words' ≡ length words → length homes' ≡ length homes → SameBits words words' → SameLives words words' → ((m : ℕ) → get_elem? homes' (value_at m) ≡ get_elem? homes (value_at m)) → Alike p q
        → (spinner' : ℕ → Option ℕ) (writer' : Option ℕ) (queue' owed' : ℕ → List ℕ) (c : Core l traced w holds words homes all) → Spins spinner' queue' owed' words' homes' (set all n q) → Lines (λ o. owed' o ++ queue' o) words' (set all n q)
        → Shows words' spinner' queue' c.owner c.spec (set all n q) → Pens traced (length c.log) words' writer' (set all n q) → AlertSeen words' (set all n q) → WakeOwed queue' words' (set all n q) → BegunWaits words' (set all n q) → Core l traced w holds words' homes' (set all n q)
    beside ew eh ws ls hs a spinner' writer' queue' owed' c spins lines shows pens seen owes begun = record {
      log = c.log;
      spec = c.spec;
      owner = c.owner;
      spinner = spinner';
      writer = writer';
      queue = queue';
      owed = owed';
      values = c.values;
      shares = c.shares;
      sizes = sizes-frame all n p q at l words words' homes homes' ew eh a.version (ap length a.held) c.sizes;
      run = c.run;
      recorded = recorded-frame all n p q at l c.log a.seen a.mine a.places c.recorded;
      owned = owned-frame all n p q at l (holds w) c.owner c.values c.shares words words' homes homes' c.sizes.lawful ws hs a.held a.share c.owned;
      spins = spins;
      lines = lines;
      shows = shows;
      pens = pens;
      alert_seen = seen;
      lives = lives-frame all n p q at words words' c.sizes.few ls a.life c.lives;
      owes = owes;
      begun = begun;
      stinted = stinted-frame all n p q at c.log (λ m. refl) a.stints a.closing c.stinted;
    }

  -- nothing has changed
  pub idle : (words : List ℕ) (homes : List (Option (Slot T))) (all : List (Part T H)) (i n : ℕ) (p : Part T H) → get_elem? all n ≡ some p → Core l traced w holds words homes all → Core l traced w holds (set words i (get_or words i 0)) homes (set all n p)
  idle words homes all i n p at c = subst (λ (z : List ℕ × List (Part T H)). Core l traced w holds z.0 homes z.1) (λ k. (sym (set-get_or words i 0) k, sym (set_again all n p at) k)) c

  -- a step that changes no word, and of the view only where the thread stands, what it remembers of gates and whether it saw an alert
  pub still : (words : List ℕ) (homes : List (Option (Slot T))) (all : List (Part T H)) (i n : ℕ) (p q : Part T H) → get_elem? all n ≡ some p → Alike p q → q.spin ≡ p.spin → q.queue ≡ p.queue → q.owed ≡ p.owed → q.left ≡ p.left → q.count ≡ p.count → q.wait ≡ p.wait → q.pen ≡ p.pen
      → (c : Core l traced w holds words homes all) → Lines (λ o. c.owed o ++ c.queue o) words (set all n q) → AlertSeen words (set all n q) → WakeOwed c.queue words (set all n q) → BegunWaits words (set all n q) → Core l traced w holds (set words i (get_or words i 0)) homes (set all n q)
  still words homes all i n p q at a es eq eo el ec ew ep c lines seen owes begun = subst (λ (z : List ℕ). Core l traced w holds z homes (set all n q)) (sym (set-get_or words i 0))
      (beside words words homes homes all n p q at refl refl (λ m lo. refl) (λ k lo. refl) (λ m. refl) a c.spinner c.writer c.queue c.owed c
      (spins-frame all n p q at c.spinner c.queue c.owed words words homes homes (λ o lo. (refl, refl)) (λ o lo. refl) es eq eo c.spins)
      lines
      (shows-frame all n p q at c.spinner c.queue c.owner c.spec words words (record { counts = λ k lo. refl; sems = λ k lo. refl; alerts = λ k lo. refl }) a.life ew el eq ec c.shows)
      (pens-frame all n p q at traced (length c.log) c.writer words words (refl, refl) ep c.pens)
      seen
      owes
      begun)
