-- The numbers of what a layout has.
use Rattle.std.proofs.Common.{refl, cond, ◌∷◌, List, lt-ltb, le-ltb, ◌≡◌, ℕ, ◌<◌, ◌≤◌, ap, sym, ◌∙◌, subst, arith, Some, None}
use Rattle.std.specs.Prelude.{Option as Opt}
use Rattle.atomic_table.specs.Seated.{TableId}
use Rattle.larch_actions.specs.declared.event.Layout.{Layout}
use Rattle.larch_actions.specs.Layout.{IsLawful}
use Rattle.larch_actions.specs.declared.kind.Kind.TheVariants as kind
use Rattle.larch_actions.proofs.Names.{few_of}
use Rattle.nub_rule.specs.declared.object.Object.{Object}
use Rattle.nub_rule.specs.declared.object.Object.TheVariants.{Mutex, Sem, Cond}
use Rattle.nub_rule.specs.declared.rule.About.{About}
use Rattle.nub_rule.specs.declared.view.Stage.{Stage}
use Rattle.nub_rule.specs.declared.view.Stand.{Stand}
use Rattle.nub_rule.specs.Parts.{staged, turned}
use Rattle.nub_rule.specs.Known.{Shape, shape_of}
use Rattle.nub_rule.specs.Places.{most_threads}
use Rattle.nub_rule.specs.Objects.{object_of, HasObject, IsGate}

pub gate_below : (l : Layout) (at : Object) → IsLawful l → IsGate at → HasObject l at → object_of at < 128
gate_below l (Mutex m) law gate has = let z = law.mutexes in omega arith
gate_below l (Sem s) law gate has = let z = law.semaphores in omega arith
gate_below l (Cond c) law gate has = absurd gate

object_below : (l : Layout) (at : Object) → IsLawful l → HasObject l at → object_of at < 192
object_below l (Mutex m) law has = let z = law.mutexes in omega arith
object_below l (Sem s) law has = let z = law.semaphores in omega arith
object_below l (Cond c) law has = let z = law.conditions in omega arith

module _ {W : Type 0} (z : TableId) (a : About W) (s : Shape W) (l : Layout) (v : shape_of z a ≡ s) (e : a.layout ≡ l) (law : IsLawful l) where
  pub lawful_now : IsLawful s.layout
  lawful_now = subst IsLawful (sym e ∙ ap (λ x. x.layout) v) law

  pub gate_low : (at : Object) → IsGate at → HasObject s.layout at → object_of at < 128
  gate_low at gate has = gate_below s.layout at lawful_now gate has

  pub object_low : (at : Object) → HasObject s.layout at → object_of at < 192
  object_low at has = object_below s.layout at lawful_now has

  pub mutex_low : (m : ℕ) → m < s.layout.mutexes → m < 64
  mutex_low m has = let x = lawful_now in let y = x.mutexes in omega arith

  pub sem_low : (m : ℕ) → m < s.layout.semaphores → m < 64
  sem_low m has = let x = lawful_now in let y = x.semaphores in omega arith

  pub thread_low : (t : ℕ) → t < s.layout.threads → t < most_threads
  thread_low t has = let few = few_of s.layout lawful_now kind.Thread in omega arith

  pub cond_low : (m : ℕ) → m < s.layout.conditions → m < 64
  cond_low m has = let x = lawful_now in let y = x.conditions in omega arith

pub some_or_none : {A : Type 0} (o : Opt A) (x : A) → o ≡ None → o ≡ Some x → ⊥
some_or_none o x e f = cc

pub staged_none : (g : Stage) (st : Opt Stand) → staged g st ≡ None → st ≡ None
staged_none g None e = refl
staged_none g (Some s) e = absurd cc

pub turned-gate : (st : Opt Stand) (xs : List ℕ) (s : Stand) → st ≡ Some s → s.at < 128 → turned st xs ≡ s.at ∷ xs
turned-gate st xs s e low = ap (λ z. turned z xs) e ∙ ap (λ b. cond b (s.at ∷ xs) xs) (lt-ltb s.at 128 low)

pub turned-cond : (st : Opt Stand) (xs : List ℕ) (s : Stand) → st ≡ Some s → 128 ≤ s.at → turned st xs ≡ xs
turned-cond st xs s e hi = ap (λ z. turned z xs) e ∙ ap (λ b. cond b (s.at ∷ xs) xs) (le-ltb s.at 128 hi)
