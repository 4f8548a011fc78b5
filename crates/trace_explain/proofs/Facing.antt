-- What is kept of the events is so in the state.
use Rattle.std.proofs.Common.{◌≡◌, ◌≢◌, ◌↔◌, ℕ, true, false, not, List, [], refl, ap, sym, ◌∙◌, inl, inr, Some, None, MatchOption, eq-eqb}
use Rattle.std.proofs.lemmas.Bool.{eqb-true}
use Rattle.std.specs.declared.option.Option.{Option}
use mathlib.Core.Option.{none, some, Option as Optional}
use Rattle.larch_actions.specs.declared.event.Event.{Event}
use Rattle.larch_actions.specs.declared.event.Pending.{Pending}
use Rattle.larch_actions.specs.declared.event.Pending.TheVariants.{Nothing, Waiting, AlertWaiting}
use Rattle.larch_actions.specs.Actions.{Spec}
use Rattle.trace_board.specs.declared.history.Origin.{Origin}
use Rattle.trace_board.specs.declared.causes.Cause.{Cause}
use Rattle.trace_board.specs.declared.causes.Cause.TheVariants.{Never, Awaited, By}
use Rattle.trace_board.specs.Tracked.{tracked_since, extended}
use Rattle.trace_board.specs.declared.rows.Bar.TheVariants.{Mutex}
use Rattle.trace_board.specs.Laws.{IsSince}
use Rattle.trace_board.specs.Awaited.{is_awaited}
use Rattle.trace_board.proofs.Agreeing.{Fits, stands_in, is_come}
use Rattle.trace_board.proofs.Causing.{reported_run, IsWaitOn as IsOnWait}
use Rattle.trace_board.proofs.Holding.{bars_are_holds}
use Rattle.trace_explain.specs.Laws.{WaitsSo, IsWaitOn, is_named, is_listed, OpenSo, AlertedSo, FactsAreSo}

-- who stands in a condition or was taken out has begun a wait
begun : (p : Pending) (x : Cause) → Fits p x → x ≢ Never → p ≢ Nothing
begun Nothing x f ne e = ne f
begun (Waiting m c) x f ne e = let bad : Waiting m c ≡ Nothing = e in cc
begun (AlertWaiting m c) x f ne e = let bad : AlertWaiting m c ≡ Nothing = e in cc

none_begun : (p : Pending) → Fits p Never → p ≡ Nothing
none_begun Nothing f = refl
none_begun (Waiting m c) (inl e) = let bad : Never ≡ Awaited c.0 = e in cc
none_begun (Waiting m c) (inr (o, e)) = let bad : Never ≡ By o = e in cc
none_begun (AlertWaiting m c) (inl e) = let bad : Never ≡ Awaited c.0 = e in cc
none_begun (AlertWaiting m c) (inr (o, e)) = let bad : Never ≡ By o = e in cc

awaited_not_never : (c : ℕ) → Awaited c ≢ Never
awaited_not_never c e = cc

by_not_never : (o : Origin) → By o ≢ Never
by_not_never o e = cc

waits_so : (s : Spec) (t : ℕ) (x : Cause) → Fits (s.pending t) x → ((c : ℕ) → s.members c t ≡ stands_in c x) → WaitsSo s t x
waits_so s t Never f h = none_begun (s.pending t) f
waits_so s t (Awaited c) f h = (begun (s.pending t) (Awaited c) f (awaited_not_never c), h c ∙ eq-eqb c c refl)
waits_so s t (By o) f h = (begun (s.pending t) (By o) f (by_not_never o), h)

named_so : (c : ℕ) (x : Cause) → stands_in c x ≡ is_named c x
named_so c Never = refl
named_so c (Awaited d) = refl
named_so c (By o) = refl

open_so : (s : Spec) (n : ℕ) (x : Cause) → s.avail n ≡ not (is_awaited x) → OpenSo s n x
open_so s n Never h = h
open_so s n (Awaited k) h = h
open_so s n (By o) h = h

alerted_so : (s : Spec) (t : ℕ) (x : Cause) → s.alerts t ≡ is_come x → AlertedSo s t x
alerted_so s t Never h = h
alerted_so s t (Awaited k) h = h
alerted_so s t (By o) h = h

wait_on : (c : ℕ) (p : Pending) → IsWaitOn c p → IsOnWait c p
wait_on c Nothing h = h
wait_on c (Waiting m d) h = h
wait_on c (AlertWaiting m d) h = h

listed_so : (m t : ℕ) (x : Option Origin) (h : Optional ℕ) (past : List Event) → MatchOption x (h ≡ none) (λ o. (h ≡ some o.thread.0) × IsSince (Mutex m) o past) → (is_listed t x ≡ true) ↔ (h ≡ some t)
listed_so m t None h past free = ((λ e. absurd (let bad : false ≡ true = e in cc)), (λ e. absurd (let bad : none ≡ some t = sym free ∙ e in cc)))
listed_so m t (Some o) h past held = ((λ e. held.0 ∙ ap some (eqb-true o.thread.0 t e)), (λ e. eq-eqb o.thread.0 t (same o.thread.0 t (sym held.0 ∙ e))))
  where
    same : (i j : ℕ) → some i ≡ some j → i ≡ j
    same i j u = cc

pub facts_are_so : FactsAreSo
facts_are_so = λ version es s r.
    let k = tracked_since (extended [] es) in
    let reported = reported_run version es s r in
    record {
      held = bars_are_holds version es s r;
      listed = λ m t. listed_so m t (k.held m) (s.holder m) (extended [] es) (bars_are_holds version es s r m);
      lives = λ t. (reported.lives t).is;
      waits = λ t. waits_so s t (k.stands t) (reported.fits t) (λ c. reported.stands c t);
      stands = λ c t. reported.stands c t ∙ named_so c (k.stands t);
      opens = λ n. open_so s n (k.opens n) (reported.opens n);
      alerts = λ t. alerted_so s t (k.alerts t) (reported.alerts t);
      taken_out_by = λ t c o is on. reported.out t o is c (wait_on c (s.pending t) on);
      opened_by = reported.opener;
      alerted_by = reported.alerted;
      forked_by = λ t. (reported.lives t).forked;
      ended_by = λ t. (reported.lives t).ended;
    }
