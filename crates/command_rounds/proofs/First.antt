-- The value agreed on is that of the thread that takes the once cell first.
use Rattle.std.proofs.Common.{Bool, cond, ◌≡◌, ℕ, ◌<◌, List, [], ◌∷◌, ◌++◌, length, map, Some, None, arith, refl, sym, ap, subst, ◌∙◌, inl, inr}
use Rattle.std.specs.Prelude.{filter, Option as Opt}
use Rattle.std.specs.List.{AllByRecursion}
use Rattle.std.proofs.lemmas.Bool.Decides.{eqb_tells}
use Rattle.std.proofs.lemmas.List.Elements.{recursion_from_All}
use Rattle.std.proofs.lemmas.Option.{same_Some}
use mathlib.Core.Option.{some, some-injective}
use lib.ListN.{get_elem?}
use Rattle.larch_actions.specs.declared.event.Event.{Event}
use Rattle.larch_actions.specs.declared.event.Layout.{Layout}
use Rattle.larch_actions.specs.Takers.{takers, takes}
use Rattle.nub.specs.Ended.{IsWhole, KeepsLocks, KeepsStints}
use Rattle.nub_rule.specs.Items.{Each}
use Rattle.nub_rule.specs.Known.{Shape}
use Rattle.nub_rule.specs.Stints.{AreInTurn, stinters, stints_at, stints_by}
use Rattle.nub_rule.proofs.Each.{at_within}
use Rattle.barrier_once.specs.declared.cell.Cell.{Cell}
use Rattle.barrier_once.specs.declared.cell.Cell.TheVariants.{Once}
use Rattle.barrier_once.specs.declared.share.RoundShare.{RoundShare}
use Rattle.barrier_once.specs.declared.share.RoundWorld.{RoundWorld}
use Rattle.barrier_once.specs.Calls.{RoundThread}
use Rattle.barrier_once.specs.Cells.{once_of}
use Rattle.barrier_once.specs.Rounds.{AreAgreed, AreRounds, fresh_share}
use Rattle.barrier_once.specs.Walks.{RoundStint}
use Rattle.command_rounds.specs.Playing.{IsPlaying, round_at}
use Rattle.command_rounds.specs.RoundEvents.{IsOfFirst}
use Rattle.command_rounds.proofs.Apart.{fresh_first}
use Rattle.command_rounds.proofs.Closing.{at_place, thread_at}
use Rattle.command_rounds.proofs.Stinted.{either, head_same, lead_holds, parted}

some_stinter : (X : Type 0) (n : ℕ) (xs : List ℕ) → n ∷ xs ≡ [] → X
some_stinter X n xs e = cc

no_taker : (X : Type 0) (t : ℕ) (others : List ℕ) → [] ≡ t ∷ others → X
no_taker X t others e = cc

none_some : (X : Type 0) (o : Opt ℕ) (v : ℕ) → o ≡ None → o ≡ Some v → X
none_some X o v none is = cc

-- the first stint with the once cell is the first of its thread, if that is one with the once cell
first_here : (t : ℕ) (front behind : List RoundStint) (s first : RoundStint) (others : List RoundStint) → stinters 2 front ≡ [] → s.thread ≡ t → stints_by t (front ++ s ∷ behind) ≡ first ∷ others → first.mutex ≡ 2 → s ≡ first
first_here t [] behind s first others none own is mutex =
    let P : Bool → Type 0 = λ b. cond b (s ∷ stints_by t behind) (stints_by t behind) ≡ first ∷ others in
    elim (eqb_tells s.thread t) [
      | inl q ↦ head_same s first (stints_by t behind) others (subst P q.0 is)
      | inr q ↦ absurd (q.1 own)
    ]
first_here t (x ∷ front) behind s first others none own is mutex =
    let rest : List RoundStint = front ++ s ∷ behind in
    let P : Bool → Type 0 = λ b. cond b (x ∷ stints_by t rest) (stints_by t rest) ≡ first ∷ others in
    let Q : Bool → Type 0 = λ b. map (λ (s : RoundStint). s.thread) (cond b (x ∷ stints_at 2 front) (stints_at 2 front)) ≡ [] in
    elim (eqb_tells x.mutex 2) [
      | inl q ↦ some_stinter (s ≡ first) x.thread (stinters 2 front) (subst Q q.0 none)
      | inr q ↦
          elim (eqb_tells x.thread t) [
            | inl r ↦ absurd (q.1 (ap (λ (z : RoundStint). z.mutex) (head_same x first (stints_by t rest) others (subst P r.0 is)) ∙ mutex))
            | inr r ↦ first_here t front behind s first others (subst Q q.0 none) own (subst P r.0 is) mutex
          ]
    ]

-- it got the first value of the once cell
got_first : (front behind : List RoundStint) (s : RoundStint) (x y : Cell) → stinters 2 front ≡ [] → s.mutex ≡ 2 → AreInTurn x (stints_at 2 (front ++ s ∷ behind)) y → s.got ≡ x
got_first [] behind s x y none mutex turn =
    let P : Bool → Type 0 = λ b. AreInTurn x (cond b (s ∷ stints_at 2 behind) (stints_at 2 behind)) y in
    elim (eqb_tells s.mutex 2) [
      | inl q ↦ (subst P q.0 turn).0
      | inr q ↦ absurd (q.1 mutex)
    ]
got_first (z ∷ front) behind s x y none mutex turn =
    let rest : List RoundStint = front ++ s ∷ behind in
    let P : Bool → Type 0 = λ b. AreInTurn x (cond b (z ∷ stints_at 2 rest) (stints_at 2 rest)) y in
    let Q : Bool → Type 0 = λ b. map (λ (s : RoundStint). s.thread) (cond b (z ∷ stints_at 2 front) (stints_at 2 front)) ≡ [] in
    elim (eqb_tells z.mutex 2) [
      | inl q ↦ some_stinter (s.got ≡ x) z.thread (stinters 2 front) (subst Q q.0 none)
      | inr q ↦ got_first front behind s x y (subst Q q.0 none) mutex (subst P q.0 turn)
    ]

-- who takes a mutex first is one of the threads
taker_low : (n m : ℕ) (h : List Event) (t : ℕ) (others : List ℕ) → AllByRecursion (λ (e : Event). e.thread.0 < n) h → takers m h ≡ t ∷ others → t < n
taker_low n m [] t others all is = no_taker (t < n) t others is
taker_low n m (e ∷ h) t others all is =
    let later = filter (λ (e : Event). takes m e.action) h in
    let P : Bool → Type 0 = λ b. map (λ (e : Event). e.thread.0) (cond b (e ∷ later) later) ≡ t ∷ others in
    elim (either (takes m e.action)) [
      | inl q ↦ subst (λ z. z < n) (head_same e.thread.0 t (takers m h) others (subst P q is)) all.0
      | inr q ↦ taker_low n m h t others all.1 (subst P q is)
    ]

-- nobody has offered a value where all shares are fresh
nobody_offered : (most count : ℕ) (shares : List RoundShare) (value : Opt ℕ) → length shares ≡ count → ((u : ℕ) → u < count → get_elem? shares u ≡ some fresh_share) → AreAgreed most value shares → value ≡ None
nobody_offered most count shares None size fresh a = refl
nobody_offered most count shares (Some v) size fresh a =
    let o = a.origin v refl in
    let low = at_within shares o.thread o.share o.is_share in
    let same : o.share ≡ fresh_share = some-injective o.share fresh_share (sym o.is_share ∙ fresh o.thread (omega arith)) in
    let value : Opt ℕ = Some v in
    none_some (value ≡ None) o.share.offered v (ap (λ (s : RoundShare). s.offered) same) o.offered

pub of_first : (l : Layout) (p : Shape RoundWorld) (w : RoundWorld) (rounds count : ℕ) (threads : List RoundThread) (values : List Cell) (h : List Event) (v : ℕ) → w.at ≡ round_at → w.parties ≡ count → length threads ≡ count → IsWhole l threads h
    → (keeps : KeepsStints (AreRounds w) threads values h) → KeepsLocks (AreRounds w) threads values → Each (λ t k. IsPlaying p t rounds k) threads → get_elem? values 2 ≡ some (Once (Some v)) → IsOfFirst v h
of_first l p w rounds count threads values h v here parties size whole keeps locks played last t others takes =
    let ss = keeps.stints in
    let people = recursion_from_All (λ (e : Event). e.thread.0 < length threads) h whole.people in
    let low = taker_low (length threads) 2 h t others people takes in
    let place = parted 2 ss [] t others (sym (keeps.takes 2) ∙ takes) in
    let s = place.stint in
    let end = locks.kept in
    let there = at_place locks.shares t (let n = end.parties in omega arith) in
    let own = thread_at threads locks.shares locks.each_share t there.0 there.1 in
    let did = played t own.0 own.1 in
    let agreed = did.agreed.0 in
    let begun = did.between.walked.begun agreed did.agreed.1 in
    let mine = subst (λ xs. stints_by t xs ≡ begun.first ∷ begun.others) place.are (keeps.own t own.0 own.1 ∙ begun.are) in
    let same = first_here t place.front place.behind s begun.first begun.others place.stinters place.thread mine begun.mutex in
    let begin = lead_holds (AreRounds w) keeps.first keeps.first_shares ss values keeps.shares keeps.lead in
    let fresh : (u : ℕ) → u < count → get_elem? keeps.first_shares u ≡ some fresh_share = λ u low. fresh_first p w rounds threads values h keeps played u (omega arith) in
    let empty = nobody_offered w.most count keeps.first_shares begin.value (begin.parties ∙ parties) fresh begin.agreed in
    let at_first : get_elem? keeps.first 2 ≡ some (Once begin.value) = ap (λ l. get_elem? keeps.first l.once.0) (sym here) ∙ begin.once in
    let turn = subst (λ xs. AreInTurn (Once begin.value) (stints_at 2 xs) (Once (Some v))) place.are (keeps.in_turn 2 (Once begin.value) (Once (Some v)) at_first last) in
    let got = got_first place.front place.behind s (Once begin.value) (Once (Some v)) place.stinters place.mutex turn in
    let offered = begun.offers (ap (λ (x : RoundStint). once_of x.got) (sym same) ∙ (ap once_of got ∙ empty)) in
    let share = same_Some did.share there.0 (sym did.between.idle.share ∙ own.2) in
    let found = end.agreed.same t there.0 there.1 agreed (ap (λ (s : RoundShare). s.agreed) (sym share) ∙ did.agreed.1) in
    let at_last : get_elem? values 2 ≡ some (Once end.value) = ap (λ l. get_elem? values l.once.0) (sym here) ∙ end.once in
    let value = ap once_of (some-injective (Once end.value) (Once (Some v)) (sym at_last ∙ last)) in
    sym (same_Some agreed v (sym found ∙ value)) ∙ offered
