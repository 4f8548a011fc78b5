-- The numbers of the mutexes, and the status of a run.
use Rattle.std.proofs.Common.{◌≡◌, ◌≢◌, ℕ, zero, suc, ◌+◌, ◌<◌, List, [], ◌∷◌, length, get_or, refl, ap, sym, ◌∙◌, subst, inl, inr, Some, Option, arith}
use Rattle.larch_actions.specs.declared.event.Event.{Event}
use Rattle.larch_actions.specs.Actions.{IsClosed, by_thread}
use Rattle.trace_core.specs.Text.{MutexValue, ReadsAs, trace_text}
use Rattle.trace_core.specs.Whole.{numbered}
use Rattle.larch_actions.specs.declared.event.Layout.{Layout}
use Rattle.script_text.specs.declared.line.Line.{Line}
use Rattle.exact_text.specs.declared.fault.TextFault.{TextFault}
use Rattle.exact_text.specs.declared.fault.TextFault.TheVariants as fault
use Rattle.script_text.specs.Runs.{AreEventsOf, total}
use Rattle.script_text.specs.Visited.{AreVisited}
use Rattle.command_endings.specs.declared.status.Status.{Status}
use Rattle.command_endings.specs.declared.status.Status.TheVariants.{Memory}
use Rattle.command_endings.specs.Changes.{Change, IsStill}
use Rattle.command_endings.specs.Endings.{SaysFault}
use Rattle.command_script.specs.Refusals.{Refuses}
use Rattle.firefly.specs.RunCommand.{totals_from, IsTraceOf, RunAnswers, Runs, IsOwn}

pub numbered_totals : (xs : List Line) (k n : ℕ) (vs : List ℕ) → length vs ≡ n → ((m : ℕ) → m < n → get_or vs m 0 ≡ total xs (k + m)) → numbered k vs ≡ totals_from k n xs
numbered_totals xs k zero [] size each = refl
numbered_totals xs k zero (v ∷ vs) size each = absurd (omega arith)
numbered_totals xs k (suc n) [] size each = absurd (omega arith)
numbered_totals xs k (suc n) (v ∷ vs) size each =
    let here : k + 0 ≡ k = omega arith in
    let first : v ≡ total xs k = each 0 (omega arith) ∙ ap (λ i. total xs i) here in
    let rest = numbered_totals xs (k + 1) n vs (omega arith) (λ m low. let next : k + suc m ≡ k + 1 + m = omega arith in each (suc m) (omega arith) ∙ ap (λ i. total xs i) next) in
    let head : (let a : MutexValue = record { mutex = k; value = v } in a) ≡ record { mutex = k; value = total xs k } = ap (λ (x : ℕ). let a : MutexValue = record { mutex = k; value = x } in a) first in
    cc

-- the printed text under equal names
pub under_names : (P : List ℕ → Type 0) (k l : Layout) (es h : List Event) (vs ws : List ℕ) → k ≡ l → es ≡ h → vs ≡ ws → P (trace_text k es (numbered 0 vs)) → P (trace_text l h (numbered 0 ws))
under_names P k l es h vs ws el eh ev p =
    let L : Layout → Type 0 = λ z. P (trace_text z h (numbered 0 ws)) in
    let E : List Event → Type 0 = λ z. P (trace_text k z (numbered 0 ws)) in
    let V : List ℕ → Type 0 = λ z. P (trace_text k es (numbered 0 z)) in
    subst L el (subst E eh (subst V ev p))

pub reads_names : (k l : Layout) (es h : List Event) (ns : List MutexValue) → k ≡ l → es ≡ h → ReadsAs (trace_text k es ns) k es ns → ReadsAs (trace_text l h ns) l h ns
reads_names k l es h ns el eh p =
    let L : Layout → Type 0 = λ z. ReadsAs (trace_text z h ns) z h ns in
    let E : List Event → Type 0 = λ z. ReadsAs (trace_text k z ns) k z ns in
    subst L el (subst E eh p)

pub same_some : {A : Type 0} (o : Option A) (x y : A) → o ≡ Some x → o ≡ Some y → x ≡ y
same_some o x y p q = cc

-- what a run left is its trace
pub is_trace : (k l : Layout) (xs : List Line) (h : List Event) (vs bytes : List ℕ) → k ≡ l → length vs ≡ l.mutexes → ((m : ℕ) → m < l.mutexes → get_or vs m 0 ≡ total xs m) → ReadsAs bytes k h (numbered 0 vs) → IsClosed l.version h
    → ((t : ℕ) → t < l.threads → AreEventsOf l.version xs t (by_thread t h)) → AreVisited l xs h → IsTraceOf l xs bytes
is_trace k l xs h vs bytes same size each reads closed own visited =
    let L : Layout → Type 0 = λ z. ReadsAs bytes z h (numbered 0 vs) in
    let V : List MutexValue → Type 0 = λ z. ReadsAs bytes l h z in
    let first : (m : ℕ) → m < l.mutexes → get_or vs m 0 ≡ total xs (0 + m) = λ m low. let z : m ≡ 0 + m = omega arith in each m low ∙ ap (λ i. total xs i) z in
    record {
      events = h;
      trace = record { reads = subst V (numbered_totals xs 0 l.mutexes vs size first) (subst L same reads); closed = closed };
      own = own;
      visited = visited;
    }

-- the statuses of a run
pub ran_own : (l : Layout) (xs : List Line) (out notes : Change) (status : Status) → Runs l xs out notes status → status ≢ Memory → IsOwn status
ran_own l xs out notes status (inl (bytes, trace, inl p)) some = inl p.0
ran_own l xs out notes status (inl (bytes, trace, inr p)) some = inr p.0
ran_own l xs out notes status (inr m) some = absurd (some m.0)

-- what is answered where no script was read
pub refused_answers : (input out notes : Change) (f : TextFault) (status : Status) → Refuses input f → IsStill out → SaysFault f notes status → RunAnswers input out notes status
refused_answers input out notes (fault.BadLine k) status why still said = subst (λ (s : Status). RunAnswers input out notes s) (sym said.0) (k, why, still, said.1)
refused_answers input out notes fault.TooLong status why still said = subst (λ (s : Status). RunAnswers input out notes s) (sym said.0) (why, still, said.1)
refused_answers input out notes fault.Read status why still said = subst (λ (s : Status). RunAnswers input out notes s) (sym said.0) (why, still, said.1)
refused_answers input out notes fault.Memory status why still said = subst (λ (s : Status). RunAnswers input out notes s) (sym said.0) (still, said.1)
