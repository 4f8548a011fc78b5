-- What keeps each item where its parts stay.
use Rattle.std.proofs.Common.{Bool, true, false, cond, append-nil, ◌≡◌, ◌≢◌, ℕ, ◌+◌, ◌<◌, ◌≤◌, ◌⊎◌, List, [], ◌∷◌, ◌++◌, length, get_or, set, refl, sym, ap, ◌∙◌, subst, inl, inr, ⊎_elim, arith, get_or-set_other, length-set}
use mathlib.Core.Logic.{dite}
use mathlib.Core.Option.{Option, some, none}
use native.Mathlib.Decide.{ℕ_discrete}
use lib.ListN.{get_elem?}
use Rattle.larch_actions.specs.declared.event.Event.{Event}
use Rattle.larch_actions.specs.declared.event.Layout.{Layout}
use Rattle.larch_actions.specs.declared.event.Life.{Life}
use Rattle.larch_actions.specs.declared.event.Pending.{Pending}
use Rattle.larch_actions.specs.Actions.{Spec, StartsWith}
use Rattle.larch_actions.specs.Layout.{IsNamed}
use Rattle.larch_actions.specs.Sets.{mem}
use Rattle.atomic_table.proofs.Lists.{set_else, set_here}
use Rattle.nub_rule.specs.declared.rule.Slot.{Slot}
use Rattle.nub_rule.specs.declared.view.Part.{Part}
use Rattle.nub_rule.specs.declared.view.Pen.{Pen}
use Rattle.nub_rule.specs.Items.{Each, Chronicle, HistoryItem, Owns, Current, Shared, Wide, Marks, Says, Owned, Spinning, Spins, Stands, Lines, Semaphores, Alerts, Holders, Pendings, Knows, Conditions, AlertSeen, HasVersion, Lives, Shows, PenFits, Pens, Sizes}
use Rattle.nub_rule.specs.Parts.{waits_on, open_on, counts_in, number_of, pending_of, stands_at}
use Rattle.nub_rule.specs.Places.{most_threads, bit_at, spin_at, length_at, count_at, alert_at, ready_at, life_at, pen_at, number_at, queue_at, value_at, sem_object, cond_object}
use Rattle.nub_rule.proofs.Each.{each-set, each-snoc, same_at, at_within}
use Rattle.nub_rule.proofs.Runs.{by_thread-other, by_thread-own, places-other, places-own, starts-more}

-- the words that an item reads stay
abbrev pub SameBits : List ℕ → List ℕ → Type 0
SameBits words words' = (m : ℕ) → m < 64 → get_or words' (bit_at m) 0 ≡ get_or words (bit_at m) 0

abbrev pub SameSpins : List ℕ → List ℕ → Type 0
SameSpins words words' = (o : ℕ) → o < 192 → (get_or words' (spin_at o) 0 ≡ get_or words (spin_at o) 0) × (get_or words' (length_at o) 0 ≡ get_or words (length_at o) 0)

abbrev pub SameReady : List ℕ → List ℕ → Type 0
SameReady words words' = (t : ℕ) → t < most_threads → get_or words' (ready_at t) 0 ≡ get_or words (ready_at t) 0

abbrev pub SameCounts : List ℕ → List ℕ → Type 0
SameCounts words words' = (c : ℕ) → c < 64 → get_or words' (count_at (cond_object c)) 0 ≡ get_or words (count_at (cond_object c)) 0

abbrev pub SameSems : List ℕ → List ℕ → Type 0
SameSems words words' = (s : ℕ) → s < 64 → get_or words' (bit_at (sem_object s)) 0 ≡ get_or words (bit_at (sem_object s)) 0

abbrev pub SameAlerts : List ℕ → List ℕ → Type 0
SameAlerts words words' = (t : ℕ) → t < most_threads → get_or words' (alert_at t) 0 ≡ get_or words (alert_at t) 0

abbrev pub SameLives : List ℕ → List ℕ → Type 0
SameLives words words' = (t : ℕ) → t < most_threads → get_or words' (life_at t) 0 ≡ get_or words (life_at t) 0

pub record SameShown (words words' : List ℕ) : Type 0 where
  pub counts : SameCounts words words'
  pub sems : SameSems words words'
  pub alerts : SameAlerts words words'

abbrev pub SamePen : List ℕ → List ℕ → Type 0
SamePen words words' = (get_or words' pen_at 0 ≡ get_or words pen_at 0) × (get_or words' number_at 0 ≡ get_or words number_at 0)

pub other : (words : List ℕ) (i j x : ℕ) → j ≢ i → get_or (set words i x) j 0 ≡ get_or words j 0
other words i j x ne = get_or-set_other words i j x 0 (λ z. ne (omega arith))

-- a step on the word i leaves the words of each item that doesn't read it
module _ (words : List ℕ) (i x : ℕ) where
  pub bits-stay : ((m : ℕ) → m < 64 → bit_at m ≢ i) → SameBits words (set words i x)
  bits-stay ne m lo = other words i (bit_at m) x (ne m lo)

  pub spins-stay : ((o : ℕ) → o < 192 → spin_at o ≢ i) → ((o : ℕ) → o < 192 → length_at o ≢ i) → SameSpins words (set words i x)
  spins-stay ne ne' o lo = (other words i (spin_at o) x (ne o lo), other words i (length_at o) x (ne' o lo))

  pub ready-stay : ((t : ℕ) → t < most_threads → ready_at t ≢ i) → SameReady words (set words i x)
  ready-stay ne t lo = other words i (ready_at t) x (ne t lo)

  pub lives-stay : ((t : ℕ) → t < most_threads → life_at t ≢ i) → SameLives words (set words i x)
  lives-stay ne t lo = other words i (life_at t) x (ne t lo)

  pub shown-stay : ((c : ℕ) → c < 64 → count_at (cond_object c) ≢ i) → ((s : ℕ) → s < 64 → bit_at (sem_object s) ≢ i) → ((t : ℕ) → t < most_threads → alert_at t ≢ i) → SameShown words (set words i x)
  shown-stay nc ns na = record { counts = λ c lo. other words i (count_at (cond_object c)) x (nc c lo); sems = λ s lo. other words i (bit_at (sem_object s)) x (ns s lo); alerts = λ t lo. other words i (alert_at t) x (na t lo) }

  pub pen-stay : pen_at ≢ i → number_at ≢ i → SamePen words (set words i x)
  pen-stay np nn = (other words i pen_at x np, other words i number_at x nn)

-- SEMAPHORES and ALERTS read words alone
pub semaphores-frame : (avail : ℕ → Bool) (words words' : List ℕ) → SameSems words words' → Semaphores words avail → Semaphores words' avail
semaphores-frame avail words words' ws h s lo = subst (λ (x : ℕ). Says x (cond (avail s) false true)) (sym (ws s lo)) (h s lo)

pub alerts-frame : (alerted : ℕ → Bool) (words words' : List ℕ) → SameAlerts words words' → Alerts words alerted → Alerts words' alerted
alerts-frame alerted words words' ws h t lo = subst (λ (x : ℕ). Says x (alerted t)) (sym (ws t lo)) (h t lo)

module _ {T H : Type 0} (all : List (Part T H)) (n : ℕ) (p q : Part T H) (at : get_elem? all n ≡ some p) where
  pub sizes-frame : (l : Layout) (words words' : List ℕ) (homes homes' : List (Option (Slot T))) → length words' ≡ length words → length homes' ≡ length homes → q.version ≡ p.version → length q.held ≡ length p.held → Sizes l words homes all → Sizes l words' homes' (set all n q)
  sizes-frame l words words' homes homes' ew eh ev el s = record {
    words_wide = ew ∙ s.words_wide;
    homes_wide = eh ∙ s.homes_wide;
    lawful = s.lawful;
    few = subst (λ (z : ℕ). z ≤ most_threads) (sym (length-set all n q)) s.few;
    count = length-set all n q ∙ s.count;
    parts_wide = each-set Wide Wide all n q (el ∙ s.parts_wide n p at) (λ k r ne at' c. c) s.parts_wide;
    versions = each-set (HasVersion l.version) (HasVersion l.version) all n q (ev ∙ s.versions n p at) (λ k r ne at' c. c) s.versions;
  }

  -- HISTORY reads what was seen, the own events and their places
  pub recorded-frame : (l : Layout) (log : List Event) → q.seen ≡ p.seen → q.mine ≡ p.mine → q.places ≡ p.places → HistoryItem l log all → HistoryItem l log (set all n q)
  recorded-frame l log seen mine places h = let c = h.each n p at in record {
    people = λ i e there. subst (λ (z : ℕ). e.thread.0 < z) (sym (length-set all n q)) (h.people i e there);
    names = h.names;
    each = each-set (Chronicle log) (Chronicle log) all n q record { begins = subst (StartsWith log) (sym seen) c.begins; own = c.own ∙ sym mine; placed = c.placed ∙ sym places } (λ k r ne at' d. d) h.each;
    longest = ⊎_elim (λ (e : log ≡ []). inl e)
        (λ (t : (k : ℕ) × (r : Part T H) × (get_elem? all k ≡ some r) × (r.seen ≡ log)). inr (dite (ℕ_discrete t.0 n)
        (λ e. let same : p ≡ t.1 = same_at all n p t.1 at (ap (get_elem? all) (sym e) ∙ t.2) in (n, q, set_here all n q (at_within all n p at), seen ∙ (ap (λ (z : Part T H). z.seen) same ∙ t.3)))
        (λ ne. (t.0, t.1, set_else all n t.0 q ne ∙ t.2, t.3)))) h.longest;
  }

  -- an event of the thread n
  pub recorded-event : (l : Layout) (log : List Event) (e : Event) → e.thread.0 ≡ n → IsNamed l e.action → q.seen ≡ log ++ e ∷ [] → q.mine ≡ p.mine ++ e ∷ [] → q.places ≡ p.places ++ length log ∷ [] → HistoryItem l log all → HistoryItem l (log ++ e ∷ []) (set all n q)
  recorded-event l log e by named seen mine places h = let c = h.each n p at in record {
    people = each-snoc (λ i f. f.thread.0 < length (set all n q)) log (log ++ e ∷ []) (length log) e refl refl (let a = at_within all n p at in let b = length-set all n q in omega (arith, by))
        (λ i f there. subst (λ (z : ℕ). f.thread.0 < z) (sym (length-set all n q)) (h.people i f there));
    names = each-snoc (λ i f. IsNamed l f.action) log (log ++ e ∷ []) (length log) e refl refl named h.names;
    each = each-set (Chronicle log) (Chronicle (log ++ e ∷ [])) all n q
        record {
          begins = ([], sym (ap (λ l. l ++ []) seen ∙ append-nil (log ++ e ∷ [])));
          own = by_thread-own n log e by ∙ (ap (λ l. l ++ e ∷ []) c.own ∙ sym mine);
          placed = places-own 0 n log e by ∙ ((let z : 0 + length log ≡ length log = omega arith in λ i. c.placed i ++ z i ∷ []) ∙ sym places);
        }
        (λ k r ne at' d. record {
          begins = starts-more log r.seen e d.begins;
          own = by_thread-other k log e (λ is. ne (sym is ∙ by)) ∙ d.own;
          placed = places-other 0 k log e (λ is. ne (sym is ∙ by)) ∙ d.placed;
        }) h.each;
    longest = inr (n, q, set_here all n q (at_within all n p at), seen);
  }

  pub standing-frame : (owner : ℕ → Option ℕ) → q.held ≡ p.held → Each (Owns owner) all → Each (Owns owner) (set all n q)
  standing-frame owner same h = each-set (Owns owner) (Owns owner) all n q
      (λ m. let c = h n p at m in ((λ has. c.0 (has.0, ap (λ l. get_elem? l m) (sym same) ∙ has.1)), λ is. let has = c.1 is in (has.0, ap (λ l. get_elem? l m) same ∙ has.1))) (λ k r ne at' c. c) h

  pub shared-frame : (shares : List H) → q.share ≡ p.share → Each (Shared shares) all → Each (Shared shares) (set all n q)
  shared-frame shares same h = let c = h n p at in each-set (Shared shares) (Shared shares) all n q (c.0, same ∙ c.1, c.2) (λ k r ne at' d. d) h

  -- MUTEX BITS, VALUES AND SHARES read the bits of mutexes, their values at home, the bits and values had and the shares
  pub owned-frame : (l : Layout) (holds : List T → List H → Type 0) (owner : ℕ → Option ℕ) (values : List T) (shares : List H) (words words' : List ℕ) (homes homes' : List (Option (Slot T))) → l.mutexes ≤ 64
      → SameBits words words' → ((m : ℕ) → get_elem? homes' (value_at m) ≡ get_elem? homes (value_at m)) → q.held ≡ p.held → q.share ≡ p.share
      → Owned l holds owner values shares words homes all → Owned l holds owner values shares words' homes' (set all n q)
  owned-frame l holds owner values shares words words' homes homes' lawful ws hs held share o = record {
    standing = standing-frame owner held o.standing;
    within = λ m k is. let r = o.within m k is in (r.0, subst (λ (z : ℕ). k < z) (sym (length-set all n q)) r.1);
    bits = λ m low. subst (λ (x : ℕ). Marks x (owner m)) (sym (ws m (omega arith))) (o.bits m low);
    at_home = λ m low x here free. hs m ∙ o.at_home m low x here free;
    values_wide = o.values_wide;
    current = each-set (Current values) (Current values) all n q (λ m x g. o.current n p at m x (ap (λ l. get_elem? l m) (sym held) ∙ g)) (λ k r ne at' c. c) o.current;
    shares_wide = o.shares_wide ∙ sym (length-set all n q);
    shared = shared-frame shares share o.shared;
    kept = o.kept;
  }

  -- SPIN WORDS AND QUEUES read the spin and length words, the queues at home, and which spin word is had with which queue and whom it owes
  pub spins-frame : (spinner : ℕ → Option ℕ) (queue owed : ℕ → List ℕ) (words words' : List ℕ) (homes homes' : List (Option (Slot T))) → SameSpins words words' → ((o : ℕ) → o < 192 → get_elem? homes' (queue_at o) ≡ get_elem? homes (queue_at o))
      → q.spin ≡ p.spin → q.queue ≡ p.queue → q.owed ≡ p.owed → Spins spinner queue owed words homes all → Spins spinner queue owed words' homes' (set all n q)
  spins-frame spinner queue owed words words' homes homes' ws hs es eq eo s = record {
    spin = λ o low. subst (λ (x : ℕ). Marks x (spinner o)) (sym (ws o low).0) (s.spin o low);
    within = λ o k is. subst (λ (z : ℕ). k < z) (sym (length-set all n q)) (s.within o k is);
    home = λ o low free. hs o low ∙ s.home o low free;
    measured = λ o low. (ws o low).1 ∙ s.measured o low;
    settled = s.settled;
    spinning = each-set (Spinning spinner queue owed) (Spinning spinner queue owed) all n q
        (λ o. let t = s.spinning n p at o in ((λ is. let u = t.0 (sym es ∙ is) in (u.0, eq ∙ u.1, eo ∙ u.2)), λ is. es ∙ t.1 is)) (λ k r ne at' t. t) s.spinning;
  }

  -- LINES AND READY WORDS read the lines, the ready words and where each thread stands
  pub lines-frame : (line : ℕ → List ℕ) (words words' : List ℕ) → length all ≤ most_threads → SameReady words words' → q.stand ≡ p.stand → Lines line words all → Lines line words' (set all n q)
  lines-frame line words words' few ws est h =
      let same : (k : ℕ) (r : Part T H) → get_elem? all k ≡ some r → get_or words' (ready_at k) 0 ≡ get_or words (ready_at k) 0 = λ k r at'. ws k (let z = at_within all k r at' in omega arith) in
      let moved : (k : ℕ) (r r' : Part T H) → get_elem? all k ≡ some r → r'.stand ≡ r.stand → Stands words line k r → Stands words' line k r' = λ k r r' at' e s. let z = same k r at' in record {
        flag = subst (λ (x : ℕ). (x ≡ 0) ⊎ (x ≡ 1)) (sym z) s.flag;
        lined = λ o there. let u = s.lined o there in (ap (λ st. stands_at st o) e ∙ u.0, z ∙ u.1);
        ready = λ one. let u = s.ready (sym z ∙ one) in (u.0, e ∙ u.1);
        kept = λ st is. ⊎_elim (λ (u : mem k (line st.at) ≡ true). inl u) (λ (u : get_or words (ready_at k) 0 ≡ 1). inr (z ∙ u)) (s.kept st (sym e ∙ is));
        found = λ st is f. z ∙ s.found st (sym e ∙ is) f;
      } in record {
        distinct = h.distinct;
        people = λ o t there. subst (λ (z : ℕ). t < z) (sym (length-set all n q)) (h.people o t there);
        stands = each-set (Stands words line) (Stands words' line) all n q (moved n p q at est (h.stands n p at)) (λ k r ne at' s. moved k r r at' refl s) h.stands;
      }

  -- HOLDERS and PENDINGS read the waits of views
  pub holders-frame : (owner holder : ℕ → Option ℕ) → q.wait ≡ p.wait → Holders owner holder all → Holders owner holder (set all n q)
  holders-frame owner holder ew h = let X : ℕ → Part T H → Type 0 = λ n p. (m : ℕ) → owner m ≡ some n → holder m ≡ cond (waits_on p.wait m) none (some n) in
      let Y : ℕ → Part T H → Type 0 = λ n p. (m : ℕ) → owner m ≡ some n → open_on p.wait m ≡ false in record {
        free = h.free;
        holds = each-set X X all n q (λ m is. h.holds n p at m is ∙ ap (λ w. cond (waits_on w m) none (some n)) (sym ew)) (λ j x ne at' u. u) h.holds;
        shut = each-set Y Y all n q (λ m is. ap (λ w. open_on w m) ew ∙ h.shut n p at m is) (λ j x ne at' u. u) h.shut;
      }

  pub pendings-frame : (pending : ℕ → Pending) → q.wait ≡ p.wait → Pendings pending all → Pendings pending (set all n q)
  pendings-frame pending ew h = let X : ℕ → Part T H → Type 0 = λ n p. pending n ≡ pending_of p.wait in
      record { strangers = λ t past. h.strangers t (subst (λ (z : ℕ). z ≤ t) (length-set all n q) past); pends = each-set X X all n q (h.pends n p at ∙ ap pending_of (sym ew)) (λ j x ne at' u. u) h.pends }

  -- LIVES and what is shown of them read the life words and the lives of views
  pub lives-frame : (words words' : List ℕ) → length all ≤ most_threads → SameLives words words' → q.life ≡ p.life → Lives words all → Lives words' (set all n q)
  lives-frame words words' few ws ei h = let X : List ℕ → ℕ → Part T H → Type 0 = λ ws n p. get_or ws (life_at n) 0 ≡ number_of p.life in
      each-set (X words) (X words') all n q (ws n (let z = at_within all n p at in omega arith) ∙ (h n p at ∙ ap number_of (sym ei))) (λ k r ne at' u. ws k (let z = at_within all k r at' in omega arith) ∙ u) h

  pub lived-frame : (life : ℕ → Life) → q.life ≡ p.life → Each (λ n p. life n ≡ p.life) all → Each (λ n p. life n ≡ p.life) (set all n q)
  lived-frame life ei h = let X : ℕ → Part T H → Type 0 = λ n p. life n ≡ p.life in each-set X X all n q (h n p at ∙ sym ei) (λ k r ne at' u. u) h

  -- CONDITIONS read the counts, and waits, queues and counts of views
  pub conditions-frame : (spinner : ℕ → Option ℕ) (queue : ℕ → List ℕ) (members : ℕ → ℕ → Bool) (words words' : List ℕ) → SameCounts words words' → q.wait ≡ p.wait → q.left ≡ p.left → q.queue ≡ p.queue → q.count ≡ p.count
      → Conditions words spinner queue members all → Conditions words' spinner queue members (set all n q)
  conditions-frame spinner queue members words words' ws ew el eq ec s = let t = s.knows n p at in let X = Knows spinner s.left s.count s.counting in record {
    left = s.left;
    count = s.count;
    counting = s.counting;
    member = s.member;
    counted = λ c lo. ws c lo ∙ s.counted c lo;
    whole = s.whole;
    queued = s.queued;
    knows = each-set X X all n q record {
      counts = λ c. t.counts c ∙ ap (λ w. counts_in w c (s.count c)) (sym ew);
      risen = λ c k hi. ap (λ w. counts_in w c k) ew ∙ t.risen c k hi;
      inside = λ c own. let o = t.inside c own in (el ∙ o.0, ec ∙ o.1);
      even = λ w is. el ∙ (t.even w (sym ew ∙ is) ∙ sym eq);
    } (λ j x ne at' u. u) s.knows;
  }

  -- MEANING OF THE WORDS: all of it stays
  pub shows-frame : (spinner : ℕ → Option ℕ) (queue : ℕ → List ℕ) (owner : ℕ → Option ℕ) (spec : Spec) (words words' : List ℕ) → SameShown words words' → q.life ≡ p.life → q.wait ≡ p.wait → q.left ≡ p.left → q.queue ≡ p.queue → q.count ≡ p.count
      → Shows words spinner queue owner spec all → Shows words' spinner queue owner spec (set all n q)
  shows-frame spinner queue owner spec words words' ws ei ew el eq ec s = record {
    holders = holders-frame owner spec.holder ew s.holders;
    pendings = pendings-frame spec.pending ew s.pendings;
    semaphores = semaphores-frame spec.avail words words' ws.sems s.semaphores;
    alerts = alerts-frame spec.alerts words words' ws.alerts s.alerts;
    conditions = conditions-frame spinner queue spec.members words words' ws.counts ew el eq ec s.conditions;
    lives = lived-frame spec.life ei s.lives;
  }

  -- ALERT SEEN reads the alert words, and which threads saw their own set
  pub alert-seen-frame : (words words' : List ℕ) → length all ≤ most_threads → SameAlerts words words' → q.alerted ≡ p.alerted → AlertSeen words all → AlertSeen words' (set all n q)
  alert-seen-frame words words' few ws ea h = let X = λ (ws : List ℕ) (k : ℕ) (r : Part T H). r.alerted ≡ true → get_or ws (alert_at k) 0 ≡ 1 in
      let same : (k : ℕ) (r : Part T H) → get_elem? all k ≡ some r → get_or words' (alert_at k) 0 ≡ get_or words (alert_at k) 0 = λ k r at'. ws k (let z = at_within all k r at' in omega arith) in
      each-set (X words) (X words') all n q (λ is. same n p at ∙ h n p at (sym ea ∙ is)) (λ k r ne at' s is. same k r at' ∙ s is) h

  -- a step on no alert word
  pub alert-seen-stays : (words : List ℕ) (i x : ℕ) → length all ≤ most_threads → ((t : ℕ) → t < most_threads → alert_at t ≢ i) → q.alerted ≡ p.alerted → AlertSeen words all → AlertSeen (set words i x) (set all n q)
  alert-seen-stays words i x few ne ea h = alert-seen-frame words (set words i x) few (λ k up. other words i (alert_at k) x (ne k up)) ea h

  -- NUMBERING reads the pen, the number word, the number of events and who has the pen
  pub pens-frame : (traced : Bool) (total : ℕ) (writer : Option ℕ) (words words' : List ℕ) → SamePen words words' → q.pen ≡ p.pen → Pens traced total words writer all → Pens traced total words' writer (set all n q)
  pens-frame traced total writer words words' ws e h = let moved : (k : ℕ) (a b : Pen) → b ≡ a → PenFits total (get_or words number_at 0) writer k a → PenFits total (get_or words' number_at 0) writer k b =
      λ k a b is f. subst (λ (z : ℕ × Pen). PenFits total z.0 writer k z.1) (λ i. (sym ws.1 i, sym is i)) f in record {
        flag = subst (λ (x : ℕ). Marks x writer) (sym ws.0) h.flag;
        within = λ k is. subst (λ (z : ℕ). k < z) (sym (length-set all n q)) (h.within k is);
        free = λ is none_has. ws.1 ∙ h.free is none_has;
        untraced = h.untraced;
        pens = each-set (λ k r. PenFits total (get_or words number_at 0) writer k r.pen) (λ k r. PenFits total (get_or words' number_at 0) writer k r.pen) all n q (moved n p.pen q.pen e (h.pens n p at)) (λ k r ne at' f. moved k r.pen r.pen refl f) h.pens;
      }
