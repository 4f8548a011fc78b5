-- What the closed package of a script's run has.
use Rattle.std.proofs.Common.{◌≡◌, ℕ, suc, ◌<◌, inl, inr, Bool, true, false, cond, List, [], ◌∷◌, length, map, get_or, set, refl, ap, sym, subst, ◌∙◌, Some, Option as Opt, IfOk, Ok, Err, arith}
use Rattle.std.specs.declared.result.Result.{Result}
use mathlib.Core.Option.{some, some-injective}
use lib.ListN.{get_elem?}
use Rattle.atomic_table.proofs.Lists.{set_else}
use Rattle.std.proofs.lemmas.Bool.Decides.{eqb_tells}
use Rattle.std.proofs.lemmas.List.{length-set}
use Rattle.larch_actions.specs.declared.event.Layout.{Layout}
use Rattle.larch_actions.specs.declared.event.Event.{Event}
use Rattle.larch_actions.specs.declared.event.Version.{Version}
use Rattle.larch_actions.specs.declared.event.Version.TheVariants.{One, Two}
use Rattle.larch_actions.specs.Actions.{by_thread}
use Rattle.larch_actions.specs.Layout.{IsLawful}
use Rattle.nub_rule.specs.Known.{Shape}
use Rattle.nub_rule.specs.Stints.{AreInTurn, StintsLead, stints_at, stints_by}
use Rattle.nub_rule.specs.declared.view.Stint.{Stint}
use Rattle.nub.specs.Ended.{IsWhole, KeepsLocks, KeepsStints}
use Rattle.nub.proofs.Users.{from_at, share_count, share_of}
use Rattle.sum_uses.specs.declared.added.Added.{Added}
use Rattle.sum_uses.specs.Sums.{added, total as share_total, AreSums}
use Rattle.script_text.specs.declared.line.Line.{Line}
use Rattle.script_text.specs.Operations.{none_held, MayFollow, none_forked, forked_after, is_born}
use Rattle.script_run.specs.Playing.{Player, AreLinked, IsPlayed, visit_of, visits_of}
use Rattle.script_text.specs.Visited.{AreVisited}
use Rattle.script_text.specs.Runs.{AreCallsAndEnd, AreEventsOf, AreRows, lines_of, total}
use Rattle.script_text.specs.Visits.{AreLeft, AreThreadVisits, AreVisitsAndEnd, Hand, LeadTo, Visit, no_hand, visits_at, visits_by}
use Rattle.script_run.proofs.Sums.{shares_total, elem_at, elem_is}

same_history : (r s : List Event) → (let o : Opt (List Event) = Some r in o) ≡ Some s → r ≡ s
same_history r s e = cc

same_share : (r s : List Added) → (let o : Opt (List Added) = Some r in o) ≡ Some s → r ≡ s
same_share r s e = cc

pub if_ok : {A E : Type 0} (r : Result A E) (P Q : A → Type 0) → ((x : A) → P x → Q x) → IfOk r P → IfOk r Q
if_ok (Ok x) P Q f h = f x h
if_ok (Err e) P Q f h = tt

pub if_three : {A E : Type 0} (r : Result A E) (P Q R S : A → Type 0) → ((x : A) → P x → Q x → R x → S x) → IfOk r P → IfOk r Q → IfOk r R → IfOk r S
if_three (Ok x) P Q R S f h k l = f x h k l
if_three (Err e) P Q R S f h k l = tt

pub if_four : {A E : Type 0} (r : Result A E) (P Q R S X : A → Type 0) → ((x : A) → P x → Q x → R x → S x → X x) → IfOk r P → IfOk r Q → IfOk r R → IfOk r S → IfOk r X
if_four (Ok x) P Q R S X f h k l m = f x h k l m
if_four (Err e) P Q R S X f h k l m = tt

pub if_both : {A E : Type 0} (r : Result A E) (P Q R : A → Type 0) → ((x : A) → P x → Q x → R x) → IfOk r P → IfOk r Q → IfOk r R
if_both (Ok x) P Q R f h k = f x h k
if_both (Err e) P Q R f h k = tt

-- what each thread of a closed package has made: these events and visits, and its shares are linked
pub record IsMade (v : Version) (xs : List Line) (t : ℕ) (k : Player) : Type 0 where
  pub visits : AreThreadVisits v xs t k.mine (visits_of k.stints)
  pub share : List Added
  pub is_share : k.share ≡ Some share
  pub linked : AreLinked [] k.stints share

-- a stint and its visit
at_visits : (m : ℕ) (ss : List (Stint ℕ (List Added))) → visits_at m (visits_of ss) ≡ visits_of (stints_at m ss)
at_visits m [] = refl
at_visits m (s ∷ ss) =
    elim (eqb_tells s.mutex m) [
      | inl e ↦ rw e.0 (ap (λ l. visit_of s ∷ l) (at_visits m ss))
      | inr e ↦ rw e.0 (at_visits m ss)
    ]

by_visits : (t : ℕ) (ss : List (Stint ℕ (List Added))) → visits_by t (visits_of ss) ≡ visits_of (stints_by t ss)
by_visits t [] = refl
by_visits t (s ∷ ss) =
    elim (eqb_tells s.thread t) [
      | inl e ↦ rw e.0 (ap (λ l. visit_of s ∷ l) (by_visits t ss))
      | inr e ↦ rw e.0 (by_visits t ss)
    ]

threads_of : (ss : List (Stint ℕ (List Added))) → map (λ (v : Visit). v.thread) (visits_of ss) ≡ map (λ (s : Stint ℕ (List Added)). s.thread) ss
threads_of [] = refl
threads_of (s ∷ ss) = ap (λ l. s.thread ∷ l) (threads_of ss)

leads_visits : (x : ℕ) (ss : List (Stint ℕ (List Added))) (y : ℕ) → AreInTurn x ss y → LeadTo x (visits_of ss) y
leads_visits x [] y is = is
leads_visits x (s ∷ ss) y is = (is.0, leads_visits s.left ss y is.1)

-- the share with which a thread's own stints began is the one that it had first
first_of : (holds : List ℕ → List (List Added) → Type 0) (xs : List ℕ) (hs : List (List Added)) (ss : List (Stint ℕ (List Added))) (ys : List ℕ) (rs : List (List Added)) → StintsLead holds xs hs ss ys rs
    → (n : ℕ) (b r : List Added) → get_elem? rs n ≡ some r → AreLinked b (stints_by n ss) r → get_elem? hs n ≡ some b
first_of holds xs hs [] ys rs lead n b r at linked = ap (λ l. get_elem? l n) lead.2 ∙ (at ∙ ap (λ (z : List Added). some z) (sym linked))
first_of holds xs hs (s ∷ ss) ys rs lead n b r at linked =
    elim (eqb_tells s.thread n) [
      | inl e ↦
          let P : Bool → Type 0 = λ c. AreLinked b (cond c (s ∷ stints_by n ss) (stints_by n ss)) r in
          let own = subst P e.0 linked in
          ap (λ i. get_elem? hs i) (sym e.1) ∙ (lead.2 ∙ ap (λ (z : List Added). some z) own.0)
      | inr e ↦
          let P : Bool → Type 0 = λ c. AreLinked b (cond c (s ∷ stints_by n ss) (stints_by n ss)) r in
          let rest = first_of holds (set xs s.mutex s.left) (set hs s.thread s.after) ss ys rs lead.3 n b r at (subst P e.0 linked) in
          sym (set_else hs s.thread n s.after (λ z. e.1 (sym z))) ∙ rest
    ]

-- as many values and shares first as at the end
lead_long : (holds : List ℕ → List (List Added) → Type 0) (xs : List ℕ) (hs : List (List Added)) (ss : List (Stint ℕ (List Added))) (ys : List ℕ) (rs : List (List Added)) → StintsLead holds xs hs ss ys rs → (length xs ≡ length ys) × (length hs ≡ length rs)
lead_long holds xs hs [] ys rs lead = (ap length lead.1, ap length lead.2)
lead_long holds xs hs (s ∷ ss) ys rs lead =
    let long = lead_long holds (set xs s.mutex s.left) (set hs s.thread s.after) ss ys rs lead.3 in
    (sym (length-set xs s.mutex s.left) ∙ long.0, sym (length-set hs s.thread s.after) ∙ long.1)

lead_holds : (holds : List ℕ → List (List Added) → Type 0) (xs : List ℕ) (hs : List (List Added)) (ss : List (Stint ℕ (List Added))) (ys : List ℕ) (rs : List (List Added)) → StintsLead holds xs hs ss ys rs → holds xs hs
lead_holds holds xs hs [] ys rs lead = lead.0
lead_holds holds xs hs (s ∷ ss) ys rs lead = lead.0

-- shares with nothing have no sum
nothing_added : (m : ℕ) (hs : List (List Added)) → ((n : ℕ) (s : List Added) → get_elem? hs n ≡ some s → s ≡ []) → share_total m hs ≡ 0
nothing_added m [] none = refl
nothing_added m (s ∷ hs) none =
    let here : added m s ≡ 0 = ap (added m) (none 0 s refl) in
    let rest = nothing_added m hs (λ n. none (suc n)) in
    omega arith

-- the visits of a closed package
pub visited_of : (v : Version) (l : Layout) (xs : List Line) (threads : List Player) (values : List ℕ) (h : List Event) → l.version ≡ v → length threads ≡ l.threads → ((n : ℕ) (k : Player) → get_elem? threads n ≡ some k → IsMade v xs n k)
    → IsWhole l threads h → KeepsStints AreSums threads values h → length values ≡ l.mutexes → ((m : ℕ) → m < l.mutexes → get_or values m 0 ≡ total xs m) → AreVisited l xs h
visited_of v l xs threads values h version count made whole keeps size sums =
    let long = lead_long AreSums keeps.first keeps.first_shares keeps.stints values keeps.shares keeps.lead in
    let many = share_count threads keeps.shares keeps.each_share in
    let bare : (n : ℕ) (s : List Added) → get_elem? keeps.first_shares n ≡ some s → s ≡ [] = λ n s at.
    let within = (from_at keeps.first_shares n s at).0 in
    let t = elem_at threads n (omega arith) in
    let own = made n t.0 t.1 in
    let share = share_of threads keeps.shares keeps.each_share n t.0 t.1 in
    let same : own.share ≡ share.0 = same_share own.share share.0 (sym own.is_share ∙ share.2) in
    let linked = subst (λ (ss : List (Stint ℕ (List Added))). AreLinked [] ss own.share) (sym (keeps.own n t.0 t.1)) own.linked in
    let first = first_of AreSums keeps.first keeps.first_shares keeps.stints values keeps.shares keeps.lead n [] own.share (share.1 ∙ ap (λ (z : List Added). some z) (sym same)) linked in
    some-injective s [] (sym at ∙ first)
    in
    record {
      visits = visits_of keeps.stints;
      lead = λ m low.
          let x = elem_at keeps.first m (omega arith) in
          let y = elem_at values m (omega arith) in
          let zero_first : x.0 ≡ 0 = (lead_holds AreSums keeps.first keeps.first_shares keeps.stints values keeps.shares keeps.lead).sums m x.0 x.1 ∙ nothing_added m keeps.first_shares bare in
          let last : y.0 ≡ total xs m = sym (elem_is values m y.0 y.1) ∙ sums m low in
          let turn = leads_visits x.0 (stints_at m keeps.stints) y.0 (keeps.in_turn m x.0 y.0 x.1 y.1) in
          let X : ℕ → Type 0 = λ z. LeadTo z (visits_at m (visits_of keeps.stints)) (total xs m) in
          let Y : ℕ → Type 0 = λ z. LeadTo x.0 (visits_at m (visits_of keeps.stints)) z in
          let V : List Visit → Type 0 = λ vs. LeadTo x.0 vs y.0 in
          subst X zero_first (subst Y last (subst V (sym (at_visits m keeps.stints)) turn));
      gives = λ m. keeps.gives m ∙ (sym (threads_of (stints_at m keeps.stints)) ∙ ap (map (λ (v : Visit). v.thread)) (sym (at_visits m keeps.stints)));
      own = λ t low.
          let at = elem_at threads t (omega arith) in
          let vs : visits_by t (visits_of keeps.stints) ≡ visits_of at.0.stints = by_visits t keeps.stints ∙ ap visits_of (keeps.own t at.0 at.1) in
          let E : List Event → Type 0 = λ es. AreThreadVisits v xs t es (visits_by t (visits_of keeps.stints)) in
          let V : List Visit → Type 0 = λ z. AreThreadVisits v xs t at.0.mine z in
          subst (λ (z : Version). AreThreadVisits z xs t (by_thread t h) (visits_by t (visits_of keeps.stints))) (sym version) (subst E (sym (whole.own t at.0 at.1)) (subst V (sym vs) (made t at.0 at.1).visits));
    }

-- the events of these visits are those of the lines
rows_left : (t : ℕ) (ys : List Line) (es : List Event) (hand after : Hand) (vs : List Visit) → AreLeft t ys es hand vs after → AreRows t ys es
rows_left t [] es hand after vs l = l.0
rows_left t (y ∷ ys) es hand after vs l = (l.0, l.1, l.5, rows_left t ys l.1 l.4 after l.3 l.7, l.8)

events_and_end : (b : Bool) (xs : List Line) (t : ℕ) (es : List Event) (vs : List Visit) → AreVisitsAndEnd b xs t es vs → AreCallsAndEnd b xs t es
events_and_end true xs t es vs a = (a.0, rows_left t (lines_of t xs) a.0 no_hand a.1.0 vs a.1.1, a.2)
events_and_end false xs t es vs a = a.0

pub events_visited : (v : Version) (xs : List Line) (t : ℕ) (es : List Event) (vs : List Visit) → AreThreadVisits v xs t es vs → AreEventsOf v xs t es
events_visited One xs t es vs a = rows_left t (lines_of t xs) es no_hand a.0 vs a.1
events_visited Two xs t es vs a = events_and_end (is_born (forked_after none_forked xs) t) xs t es vs a

-- the part of each thread in the history is its own events, and these are its rows
pub events_made : (v : Version) (l : Layout) (xs : List Line) (threads : List Player) (count : ℕ) (h : List Event) → length threads ≡ count → ((n : ℕ) (k : Player) → get_elem? threads n ≡ some k → IsMade v xs n k) → IsWhole l threads h
    → (t : ℕ) → t < count → AreEventsOf v xs t (by_thread t h)
events_made v l xs threads count h size made whole t low =
    let at = elem_at threads t (omega arith) in
    let P : List Event → Type 0 = λ es. AreEventsOf v xs t es in
    subst P (sym (whole.own t at.0 at.1)) (events_visited v xs t at.0.mine (visits_of at.0.stints) (made t at.0 at.1).visits)

pub played_made : (p : Shape (Prim.Unit {0})) (xs : List Line) (threads : List Player) → ((n : ℕ) (k : Player) → get_elem? threads n ≡ some k → IsPlayed p xs n k) → (n : ℕ) (k : Player) → get_elem? threads n ≡ some k → IsMade One xs n k
played_made p xs threads played n k at = let s = played n k at in record { visits = s.visits; share = s.share; is_share = s.is_share; linked = s.linked }

-- a history that is the same as another
pub whole_same : (l : Layout) (threads : List Player) (g h : List Event) (o : Opt (List Event)) → o ≡ Some g → o ≡ Some h → IsWhole l threads g → IsWhole l threads h
whole_same l threads g h o a b whole = subst (λ (z : List Event). IsWhole l threads z) (same_history g h (sym a ∙ b)) whole

-- the values are the totals
pub values_of : (p : Shape (Prim.Unit {0})) (l : Layout) (xs : List Line) (threads : List Player) (values : List ℕ) → IsLawful l → MayFollow l none_held none_forked xs → length threads ≡ l.threads → ((n : ℕ) (t : Player) → get_elem? threads n ≡ some t → IsPlayed p xs n t)
    → KeepsLocks AreSums threads values → length values ≡ l.mutexes → (m : ℕ) → m < l.mutexes → get_or values m 0 ≡ total xs m
values_of p l xs threads values ok follow count played locks size m low =
    let at = elem_at values m (omega arith) in
    elem_is values m at.0 at.1 ∙ locks.kept.sums m at.0 at.1 ∙ shares_total p l none_held none_forked xs m threads locks.shares follow (omega (arith, ok.mutexes)) count played locks.each_share
