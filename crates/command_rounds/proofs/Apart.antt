-- No thread leaves the bar before all have come as often.
use Rattle.std.proofs.Common.{Bool, true, false, cond, eqb, ◌≡◌, ℕ, ◌+◌, ◌<◌, ◌≤◌, List, [], ◌∷◌, ◌++◌, length, map, arith, refl, sym, ap, subst, ◌∙◌, append_assoc, length-append, eq-eqb, ⊎_elim}
use Rattle.std.specs.List.{AllByRecursion}
use Rattle.std.specs.Prelude.{filter}
use Rattle.std.proofs.lemmas.List.{map-append}
use Rattle.std.proofs.lemmas.List.Elements.{filter-append, recursion_from_All}
use mathlib.Core.Option.{some}
use lib.ListN.{get_elem?}
use Rattle.larch_actions.specs.declared.event.Event.{Event}
use Rattle.larch_actions.specs.declared.event.Layout.{Layout}
use Rattle.larch_actions.specs.Actions.{by_thread}
use Rattle.nub.specs.Ended.{IsWhole, KeepsStints}
use Rattle.nub_rule.specs.Items.{Each}
use Rattle.nub_rule.specs.Known.{Shape}
use Rattle.nub_rule.specs.Plays.{release_event}
use Rattle.larch_actions.specs.Takers.{gives, givers}
use Rattle.nub_rule.specs.Stints.{StintsLead, stinters, stints_at, stints_by}
use Rattle.barrier_once.specs.declared.cell.Cell.{Cell}
use Rattle.barrier_once.specs.declared.share.RoundShare.{RoundShare}
use Rattle.barrier_once.specs.declared.share.RoundWorld.{RoundWorld}
use Rattle.barrier_once.specs.Calls.{RoundThread}
use Rattle.barrier_once.specs.Rounds.{AreRounds, fresh_share}
use Rattle.barrier_once.specs.Walks.{EndsStints, RoundStint, Walks, acquires, how_many, releases}
use Rattle.barrier_once.proofs.Walks.{how_many_append}
use Rattle.command_rounds.specs.Playing.{IsPlaying, KeepsArrivals}
use Rattle.command_rounds.specs.RoundEvents.{AllHaveCome}
use Rattle.command_rounds.proofs.Closing.{at_place}
use Rattle.command_rounds.proofs.Walked.{all_append}
use Rattle.command_rounds.proofs.Stinted.{all_front, head_same, lead_few, lead_first, lead_front, lead_last, own_count, own_gives, parted, tail_same, times}

-- a walk over the first events, and over the others
pub record IsSplit (m came left : ℕ) (es fs : List Event) (ss : List RoundStint) : Type 0 where
  pub front : List RoundStint
  pub behind : List RoundStint
  pub are : ss ≡ front ++ behind
  pub count : length front ≡ how_many (gives m) es
  pub few : AllByRecursion (λ s. s.after.arrivals ≤ came + how_many (acquires m) es) front
  pub walks : Walks m (came + how_many (acquires m) es) (left + how_many (releases m) es) fs behind

few_more : (n k : ℕ) (ss : List RoundStint) → n ≤ k → AllByRecursion (λ s. s.after.arrivals ≤ n) ss → AllByRecursion (λ s. s.after.arrivals ≤ k) ss
few_more n k [] low all = tt
few_more n k (s ∷ ss) low all = let own = all.0 in (omega arith, few_more n k ss low all.1)

ends_few : (m : ℕ) (given released : Bool) (came left : ℕ) (ss : List RoundStint) → EndsStints m given released came left ss → (length ss ≡ cond given 1 0) × AllByRecursion (λ s. s.after.arrivals ≤ came) ss
ends_few m false released came left ss e = (ap length e, subst (AllByRecursion (λ s. s.after.arrivals ≤ came)) (sym e) tt)
ends_few m true released came left ss e = (ap length e.1, subst (AllByRecursion (λ s. s.after.arrivals ≤ came)) (sym e.1) (e.3, tt))

split : (m came left : ℕ) (es fs : List Event) (ss : List RoundStint) → Walks m came left (es ++ fs) ss → IsSplit m came left es fs ss
split m came left [] fs ss w =
    let a : came ≡ came + 0 = omega arith in
    let l : left ≡ left + 0 = omega arith in
    record { front = []; behind = ss; are = refl; count = refl; few = tt; walks = subst (λ i. Walks m i (left + 0) fs ss) a (subst (λ j. Walks m came j fs ss) l w) }
split m came left (e ∷ es) fs ss w =
    let c = cond (acquires m e.action) 1 0 in
    let d = cond (releases m e.action) 1 0 in
    let own = ends_few m (gives m e.action) (releases m e.action) came left w.0 w.3 in
    let long = own.0 in
    let rest = split m (came + c) (left + d) es fs w.1 w.4 in
    let count = rest.count in
    let size = length-append w.0 rest.front in
    let a : (came + c) + how_many (acquires m) es ≡ came + (c + how_many (acquires m) es) = omega arith in
    let l : (left + d) + how_many (releases m) es ≡ left + (d + how_many (releases m) es) = omega arith in
    let A : ℕ → Type 0 = λ n. AllByRecursion (λ (s : RoundStint). s.after.arrivals ≤ n) rest.front in
    record {
      front = w.0 ++ rest.front;
      behind = rest.behind;
      are = w.2 ∙ (ap (λ z. w.0 ++ z) rest.are ∙ sym (append_assoc w.0 rest.front rest.behind));
      count = omega arith;
      few = all_append (λ (s : RoundStint). s.after.arrivals ≤ came + (c + how_many (acquires m) es)) w.0 rest.front (few_more came (came + (c + how_many (acquires m) es)) w.0 (omega arith) own.1) (subst A a rest.few);
      walks = subst (λ i. Walks m i (left + (d + how_many (releases m) es)) fs rest.behind) a (subst (λ j. Walks m ((came + c) + how_many (acquires m) es) j fs rest.behind) l rest.walks);
    }

-- two lists in two parts each, the first of which are as long
same_parts : (xs ys zs ws : List RoundStint) → length xs ≡ length zs → xs ++ ys ≡ zs ++ ws → (xs ≡ zs) × (ys ≡ ws)
same_parts [] ys [] ws long e = (refl, e)
same_parts [] ys (z ∷ zs) ws long e = absurd (omega arith)
same_parts (x ∷ xs) ys [] ws long e = absurd (omega arith)
same_parts (x ∷ xs) ys (z ∷ zs) ws long e =
    let head = head_same x z (xs ++ ys) (zs ++ ws) e in
    let rest = same_parts xs ys zs ws (omega arith) (tail_same x z (xs ++ ys) (zs ++ ws) e) in
    (ap (λ y. y ∷ xs) head ∙ ap (λ l. z ∷ l) rest.0, rest.1)

by_both : (u : ℕ) (xs ys : List Event) → by_thread u (xs ++ ys) ≡ by_thread u xs ++ by_thread u ys
by_both u [] ys = refl
by_both u (x ∷ xs) ys = elim (eqb x.thread.0 u) as (λ b. cond b (x ∷ by_thread u (xs ++ ys)) (by_thread u (xs ++ ys)) ≡ cond b (x ∷ by_thread u xs) (by_thread u xs) ++ by_thread u ys)
    [ true ↦ ap (λ l. x ∷ l) (by_both u xs ys) | false ↦ by_both u xs ys ]

own_both : (u : ℕ) (xs ys : List RoundStint) → stints_at 0 (stints_by u (xs ++ ys)) ≡ stints_at 0 (stints_by u xs) ++ stints_at 0 (stints_by u ys)
own_both u xs ys = ap (stints_at 0) (filter-append (λ (s : RoundStint). eqb s.thread u) xs ys) ∙ filter-append (λ (s : RoundStint). eqb s.mutex 0) (stints_by u xs) (stints_by u ys)

-- the part of one thread, up to a place in the history and in the order of the stints
pub record IsOwnPart (u : ℕ) (es fs : List Event) (ss rs : List RoundStint) : Type 0 where
  pub few : AllByRecursion (λ s. s.after.arrivals ≤ how_many (acquires 0) (by_thread u es)) (stints_at 0 (stints_by u ss))
  pub walks : Walks 0 (how_many (acquires 0) (by_thread u es)) (how_many (releases 0) (by_thread u es)) (by_thread u fs) (stints_at 0 (stints_by u rs))

own_part : (u : ℕ) (es fs : List Event) (ss rs : List RoundStint) → stinters 0 ss ≡ givers 0 es → Walks 0 0 0 (by_thread u (es ++ fs)) (stints_at 0 (stints_by u (ss ++ rs))) → IsOwnPart u es fs ss rs
own_part u es fs ss rs same w =
    let W : List Event → List RoundStint → Type 0 = λ k l. Walks 0 0 0 k l in
    let at = split 0 0 0 (by_thread u es) (by_thread u fs) (stints_at 0 (stints_by u ss) ++ stints_at 0 (stints_by u rs)) (subst (λ k. W k (stints_at 0 (stints_by u ss) ++ stints_at 0 (stints_by u rs))) (by_both u es fs) (subst (W (by_thread u (es ++ fs))) (own_both u ss rs) w)) in
    let long : length at.front ≡ length (stints_at 0 (stints_by u ss)) = at.count ∙ (own_gives u 0 es ∙ (ap (times u) (sym same) ∙ sym (own_count u 0 ss))) in
    let parts = same_parts at.front at.behind (stints_at 0 (stints_by u ss)) (stints_at 0 (stints_by u rs)) long (sym at.are) in
    let a : 0 + how_many (acquires 0) (by_thread u es) ≡ how_many (acquires 0) (by_thread u es) = omega arith in
    let l : 0 + how_many (releases 0) (by_thread u es) ≡ how_many (releases 0) (by_thread u es) = omega arith in
    let F : ℕ → List RoundStint → Type 0 = λ n k. AllByRecursion (λ (s : RoundStint). s.after.arrivals ≤ n) k in
    let V : ℕ → ℕ → Type 0 = λ i j. Walks 0 i j (by_thread u fs) (stints_at 0 (stints_by u rs)) in
    record {
      few = subst (λ n. F n (stints_at 0 (stints_by u ss))) a (subst (F (0 + how_many (acquires 0) (by_thread u es))) parts.0 at.few);
      walks = subst (λ i. V i (how_many (releases 0) (by_thread u es))) a (subst (V (0 + how_many (acquires 0) (by_thread u es))) l
          (subst (Walks 0 (0 + how_many (acquires 0) (by_thread u es)) (0 + how_many (releases 0) (by_thread u es)) (by_thread u fs)) parts.1 at.walks));
    }

-- the stint at which the bar was released: its thread had left once more
released_last : (t came left : ℕ) (es : List Event) (s : RoundStint) (ss : List RoundStint) → Walks 0 came left (release_event t 0 ∷ es) (s ∷ ss) → s.after.left ≡ left + 1
released_last t came left es s ss w =
    let own = w.3 in
    let is : s ∷ ss ≡ own.0 ∷ w.1 = w.2 ∙ ap (λ l. l ++ w.1) own.1 in
    ap (λ (z : RoundStint). z.after.left) (head_same s own.0 ss w.1 is) ∙ own.4 refl

-- what the stints of a closed package of rounds are
pub record AreStinted (w : RoundWorld) (threads : ℕ) (h : List Event) (ss : List RoundStint) : Type 0 where
  pub first : List Cell
  pub first_shares : List RoundShare
  pub values : List Cell
  pub shares : List RoundShare
  pub lead : StintsLead (AreRounds w) first first_shares ss values shares
  pub gives : givers 0 h ≡ stinters 0 ss
  pub fresh : (u : ℕ) → u < threads → get_elem? first_shares u ≡ some fresh_share
  pub walks : (u : ℕ) → u < threads → Walks 0 0 0 (by_thread u h) (stints_at 0 (stints_by u ss))
  pub kept : (u : ℕ) → u < threads → AllByRecursion KeepsArrivals (stints_by u ss)
  pub people : (a b : List Event) (e : Event) → h ≡ a ++ e ∷ b → e.thread.0 < threads

own_release : (t : ℕ) (es : List Event) → by_thread t (release_event t 0 ∷ es) ≡ release_event t 0 ∷ by_thread t es
own_release t es = ap (λ (b : Bool). cond b (release_event t 0 ∷ by_thread t es) (by_thread t es)) (eq-eqb t t refl)

own_stint : (t : ℕ) (s : RoundStint) (ss : List RoundStint) → s.thread ≡ t → s.mutex ≡ 0 → stints_at 0 (stints_by t (s ∷ ss)) ≡ s ∷ stints_at 0 (stints_by t ss)
own_stint t s ss thread mutex =
    ap (λ (b : Bool). stints_at 0 (cond b (s ∷ stints_by t ss) (stints_by t ss))) (eq-eqb s.thread t thread)
    ∙ ap (λ (b : Bool). cond b (s ∷ stints_at 0 (stints_by t ss)) (stints_at 0 (stints_by t ss))) (eq-eqb s.mutex 0 mutex)

one_giver : (t : ℕ) (a : List Event) → givers 0 (a ++ release_event t 0 ∷ []) ≡ givers 0 a ++ t ∷ []
one_giver t a = ap (map (λ (e : Event). e.thread.0)) (filter-append (λ (e : Event). gives 0 e.action) a (release_event t 0 ∷ [])) ∙ map-append (λ (e : Event). e.thread.0) (filter (λ (e : Event). gives 0 e.action) a) (release_event t 0 ∷ [])

one_stinter : (ss : List RoundStint) (s : RoundStint) → s.mutex ≡ 0 → stinters 0 (ss ++ s ∷ []) ≡ stinters 0 ss ++ s.thread ∷ []
one_stinter ss s mutex =
    ap (map (λ (s : RoundStint). s.thread)) (filter-append (λ (s : RoundStint). eqb s.mutex 0) ss (s ∷ []) ∙ ap (λ (b : Bool). stints_at 0 ss ++ cond b (s ∷ []) []) (eq-eqb s.mutex 0 mutex))
    ∙ map-append (λ (s : RoundStint). s.thread) (stints_at 0 ss) (s ∷ [])

all_givers : (t : ℕ) (a b : List Event) → givers 0 (a ++ release_event t 0 ∷ b) ≡ givers 0 a ++ t ∷ givers 0 b
all_givers t a b = ap (map (λ (e : Event). e.thread.0)) (filter-append (λ (e : Event). gives 0 e.action) a (release_event t 0 ∷ b)) ∙ map-append (λ (e : Event). e.thread.0) (filter (λ (e : Event). gives 0 e.action) a) (filter (λ (e : Event). gives 0 e.action) (release_event t 0 ∷ b))

acquires_released : (u t : ℕ) (a : List Event) → how_many (acquires 0) (by_thread u (a ++ release_event t 0 ∷ [])) ≡ how_many (acquires 0) (by_thread u a)
acquires_released u t a =
    let both = ap (how_many (acquires 0)) (by_both u a (release_event t 0 ∷ [])) ∙ how_many_append (acquires 0) (by_thread u a) (by_thread u (release_event t 0 ∷ [])) in
    let none : how_many (acquires 0) (by_thread u (release_event t 0 ∷ [])) ≡ 0 = elim (eqb t u) as (λ b. how_many (acquires 0) (cond b (release_event t 0 ∷ []) []) ≡ 0) [ true ↦ refl | false ↦ refl ] in
    omega arith

pub all_come : (w : RoundWorld) (threads : ℕ) (h : List Event) (ss : List RoundStint) → AreStinted w threads h ss → AllHaveCome threads h
all_come w threads h ss is a b t u parts low =
    let e = release_event t 0 in
    let own_low = is.people a b e parts in
    let at = parted 0 ss (givers 0 a) t (givers 0 b) (sym is.gives ∙ (ap (givers 0) parts ∙ all_givers t a b)) in
    let s = at.stint in
    let W : ℕ → List Event → List RoundStint → Type 0 = λ n k l. Walks 0 0 0 (by_thread n k) (stints_at 0 (stints_by n l)) in
    let mine = own_part t a (e ∷ b) at.front (s ∷ at.behind) at.stinters (subst (λ k. W t k (at.front ++ s ∷ at.behind)) parts (subst (W t h) at.are (is.walks t own_low))) in
    let came = how_many (acquires 0) (by_thread t a) in
    let gone = how_many (releases 0) (by_thread t a) in
    let last = released_last t came gone (by_thread t b) s (stints_at 0 (stints_by t at.behind)) (subst (λ k. Walks 0 came gone k (s ∷ stints_at 0 (stints_by t at.behind))) (own_release t b)
    (subst (Walks 0 came gone (by_thread t (e ∷ b))) (own_stint t s at.behind at.thread at.mutex) mine.walks)) in
    let to_here = a ++ e ∷ [] in
    let front = at.front ++ s ∷ [] in
    let stinters_here : stinters 0 front ≡ givers 0 to_here = one_stinter at.front s at.mutex ∙ (ap (λ l. l ++ s.thread ∷ []) at.stinters ∙ (ap (λ n. givers 0 a ++ n ∷ []) at.thread ∙ sym (one_giver t a))) in
    let events : h ≡ to_here ++ b = parts ∙ sym (append_assoc a (e ∷ []) b) in
    let stints : ss ≡ front ++ at.behind = at.are ∙ sym (append_assoc at.front (s ∷ []) at.behind) in
    let yours = own_part u to_here b front at.behind stinters_here (subst (λ k. W u k (front ++ at.behind)) events (subst (W u h) stints (is.walks u low))) in
    let most = how_many (acquires 0) (by_thread u to_here) in
    let lead = lead_front (AreRounds w) is.first is.first_shares front at.behind is.values is.shares (subst (λ l. StintsLead (AreRounds w) is.first is.first_shares l is.values is.shares) stints is.lead) in
    let kept = all_front KeepsArrivals (stints_by u front) (stints_by u at.behind) (subst (AllByRecursion KeepsArrivals) (ap (stints_by u) stints ∙ filter-append (λ (s : RoundStint). eqb s.thread u) front at.behind) (is.kept u low)) in
    let few = lead_few (AreRounds w) most u is.first is.first_shares front lead.0 lead.1 fresh_share lead.2 (is.fresh u low) (omega arith) yours.few kept in
    let end = lead_last (AreRounds w) is.first is.first_shares at.front s lead.0 lead.1 lead.2 in
    let left = (end.0.each s.thread s.after end.1).left in
    let arrivals : end.0.round ≤ few.0.arrivals = ⊎_elim (λ (z : few.0.arrivals ≡ end.0.round). omega arith) (λ (z : few.0.arrivals ≡ end.0.round + 1). omega arith) (end.0.each u few.0 few.1).arrivals in
    let bound = few.2 in
    let same = acquires_released u t a in
    omega arith

-- the stints of a closed package in which all have played their rounds
at_middle : (P : Event → Type 0) (a b : List Event) (e : Event) → AllByRecursion P (a ++ e ∷ b) → P e
at_middle P [] b e all = all.0
at_middle P (x ∷ a) b e all = at_middle P a b e all.1

-- the share of each thread is fresh before its first stint
pub fresh_first : (p : Shape RoundWorld) (w : RoundWorld) (rounds : ℕ) (threads : List RoundThread) (values : List Cell) (h : List Event) (keeps : KeepsStints (AreRounds w) threads values h) → Each (λ t k. IsPlaying p t rounds k) threads
    → (u : ℕ) → u < length threads → get_elem? keeps.first_shares u ≡ some fresh_share
fresh_first p w rounds threads values h keeps played u low =
    let at = at_place threads u low in
    let did = played u at.0 at.1 in
    let begun = did.between.walked.begun did.agreed.0 did.agreed.1 in
    lead_first (AreRounds w) keeps.first keeps.first_shares keeps.stints values keeps.shares u begun.first begun.others keeps.lead (keeps.own u at.0 at.1 ∙ begun.are) ∙ ap (λ (z : RoundShare). some z) begun.before

pub stinted_of : (l : Layout) (p : Shape RoundWorld) (w : RoundWorld) (rounds count : ℕ) (threads : List RoundThread) (values : List Cell) (h : List Event) → length threads ≡ count → IsWhole l threads h → (keeps : KeepsStints (AreRounds w) threads values h) → Each (λ t k. IsPlaying p t rounds k) threads
    → AreStinted w count h keeps.stints
stinted_of l p w rounds count threads values h size whole keeps played = record {
  first = keeps.first;
  first_shares = keeps.first_shares;
  values = values;
  shares = keeps.shares;
  lead = keeps.lead;
  gives = keeps.gives 0;
  fresh = λ u low. fresh_first p w rounds threads values h keeps played u (omega arith);
  walks = λ u low.
      let at = at_place threads u (omega arith) in
      let did = played u at.0 at.1 in
      let P : List Event → List RoundStint → Type 0 = λ es ss. Walks 0 0 0 es (stints_at 0 ss) in
      subst (λ es. P es (stints_by u keeps.stints)) (sym (whole.own u at.0 at.1 ∙ did.between.mine)) (subst (P did.events) (sym (keeps.own u at.0 at.1)) did.between.walked.walks);
  kept = λ u low.
      let at = at_place threads u (omega arith) in
      subst (AllByRecursion KeepsArrivals) (sym (keeps.own u at.0 at.1)) (played u at.0 at.1).between.walked.kept;
  people = λ a b e parts.
      let all = recursion_from_All (λ (e : Event). e.thread.0 < length threads) h whole.people in
      let own = at_middle (λ (e : Event). e.thread.0 < length threads) a b e (subst (AllByRecursion (λ (e : Event). e.thread.0 < length threads)) parts all) in
      omega arith;
}
