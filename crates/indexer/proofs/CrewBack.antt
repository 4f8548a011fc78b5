-- What comes of a crew of workers.
use Rattle.std.proofs.Common.{◌≡◌, ℕ, ◌<◌, Bool, true, false, zero, suc, List, [], ◌∷◌, length, map, get_or, Option, Some, None, cond, nat_lt, refl, sym, ap, subst, ◌∙◌}
use mathlib.Core.Option.{some, some-injective, some-ne-none}
use lib.ListN.{get_elem?}
use Rattle.std.proofs.lemmas.List.{length-map}
use Rattle.std.proofs.lemmas.Bool.{ltb-true}
use Rattle.firefly_outside.specs.Trees.{Path, Contents, Calls}
use Rattle.firefly_outside.specs.declared.tree.Kind.{Kind}
use Rattle.firefly_outside.specs.declared.tree.Kind.TheVariants.{File, Dir}
use Rattle.nub_rule.specs.Items.{Each}
use Rattle.nub.proofs.Users.{from_at}
use Rattle.package_crew.specs.Crews.{CameBack}
use Rattle.index_findings.specs.declared.findings.Findings.{Findings}
use Rattle.indexer.specs.declared.job.Job.{Job}
use Rattle.indexer.specs.declared.job.Role.{Role}
use Rattle.indexer.specs.declared.job.Role.TheVariants.{Walker, Parser, Merger}
use Rattle.indexer.specs.Roles.{role_of, tree_of}
use Rattle.indexer.specs.Jobs.{GivesRole, GivesTree, HasWorked, kind_at, tree_at}
use Rattle.indexer.specs.Turns.{Worker, Run}

-- as many jobs as threads
pub as_many : {S : Type 0} (jobs : List (Job S)) (threads : List Worker) → map (λ j. j.me) jobs ≡ threads → length jobs ≡ length threads
as_many jobs threads same = sym (length-map jobs (λ j. j.me)) ∙ ap length same

pub from_map : {A B : Type 0} (f : A → B) (xs : List A) (k : ℕ) (y : B) → get_elem? (map f xs) k ≡ some y → (x : A) × (get_elem? xs k ≡ some x) × (f x ≡ y)
from_map f [] k y e = absurd (some-ne-none y (sym e))
from_map f (x ∷ xs) zero y e = (x, refl, some-injective (f x) y e)
from_map f (x ∷ xs) (suc k) y e = from_map f xs k y e

pub to_map : {A B : Type 0} (f : A → B) (xs : List A) (k : ℕ) (x : A) → get_elem? xs k ≡ some x → get_elem? (map f xs) k ≡ some (f x)
to_map f [] k x e = absurd (some-ne-none x (sym e))
to_map f (y ∷ xs) zero x e = ap (λ z. some (f z)) (some-injective y x e)
to_map f (y ∷ xs) (suc k) x e = to_map f xs k x e

module _ {S : Type 0} (tree : S → Option Contents) (weak : S → List Path) (faults : S → ℕ) (calls : S → Calls) (root : Path) (p : Run) where
  gives_by : (kind : Kind) (a b : Worker) (f : Findings) (v : Bool) (old new got : Option S) → (v ≡ true → new ≡ got) → GivesTree tree weak faults calls root p kind a b f (cond v old None) got
      → GivesTree tree weak faults calls root p kind a b f (cond v old None) (cond v new None)
  gives_by kind a b f true old new got e h = subst (λ (t : Option S). GivesTree tree weak faults calls root p kind a b f old t) (sym (e refl)) h
  gives_by kind a b f false old new None e h = h
  gives_by kind a b f false old new (Some r) e h = absurd h

  -- the tree that was put back is the one that came back
  gives_at : (kind : Kind) (a b : Worker) (f : Findings) (n : ℕ) (old new : List (Option S)) (k : ℕ) (got : Option S) → (k < n → get_or new k None ≡ got)
      → GivesTree tree weak faults calls root p kind a b f (tree_at n old k) got → GivesTree tree weak faults calls root p kind a b f (tree_at n old k) (tree_at n new k)
  gives_at kind a b f n old new k got e h = gives_by kind a b f (nat_lt k n) (get_or old k None) (get_or new k None) got (λ t. e (ltb-true k n t)) h

  -- a worker that has a role gives what one with its kind and its tree gives
  gives_role : (kind : Kind) (a b : Worker) (f : Findings) (given : Option S) (got : Role S) → GivesRole tree weak faults calls root p a b f (role_of kind given) got → GivesTree tree weak faults calls root p kind a b f given (tree_of got)
  gives_role Dir a b f (Some s) (Walker r) h = h
  gives_role Dir a b f (Some s) (Parser r) h = absurd h
  gives_role Dir a b f (Some s) Merger h = absurd h
  gives_role File a b f (Some s) (Walker r) h = absurd h
  gives_role File a b f (Some s) (Parser r) h = h
  gives_role File a b f (Some s) Merger h = absurd h
  gives_role Dir a b f None (Walker r) h = absurd h
  gives_role Dir a b f None (Parser r) h = absurd h
  gives_role Dir a b f None Merger h = h
  gives_role File a b f None (Walker r) h = absurd h
  gives_role File a b f None (Parser r) h = absurd h
  gives_role File a b f None Merger h = h

  -- where jobs with the trees came back, and the trees were put back, each thread has worked
  pub all_worked : (walkers n : ℕ) (threads : List Worker) (findings : List Findings) (old new : List (Option S)) (jobs back : List (Job S)) → map (λ j. j.me) jobs ≡ threads
      → ((k : ℕ) (e : Job S) → k < length jobs → (get_or jobs k e).role ≡ role_of (kind_at walkers k) (tree_at n old k))
      → ((k : ℕ) (d : Option S) (e : Job S) → k < n → k < length back → get_or new k d ≡ tree_of (get_or back k e).role)
      → Each (λ k j. CameBack (λ was left. GivesRole tree weak faults calls root p was.me j.me left was.role j.role) jobs findings k) back
      → Each (HasWorked tree weak faults calls root p walkers n threads findings old new) (map (λ j. j.me) back)
  all_worked walkers n threads findings old new jobs back same roles gone each k t at =
      let j = from_map (λ (j : Job S). j.me) back k t at in
      let b = each k j.0 j.1 in
      let there = from_at jobs k b.was b.is_was in
      let here = from_at back k j.0 j.1 in
      let own : b.was.role ≡ role_of (kind_at walkers k) (tree_at n old k) = ap (λ (x : Job S). x.role) there.1 ∙ roles k b.was there.0 in
      let put : k < n → get_or new k None ≡ tree_of j.0.role = λ below. gone k None j.0 below here.0 ∙ ap (λ (x : Job S). tree_of x.role) (sym here.1) in
      let goes : GivesTree tree weak faults calls root p (kind_at walkers k) b.was.me t b.left (tree_at n old k) (tree_of j.0.role) =
      subst (λ (w : Worker). GivesTree tree weak faults calls root p (kind_at walkers k) b.was.me w b.left (tree_at n old k) (tree_of j.0.role)) j.2
      (gives_role (kind_at walkers k) b.was.me j.0.me b.left (tree_at n old k) j.0.role
      (subst (λ (x : Role S). GivesRole tree weak faults calls root p b.was.me j.0.me b.left x j.0.role) own b.goes)) in
      record {
        was = b.was.me;
        is_was = ap (λ l. get_elem? l k) (sym same) ∙ to_map (λ (x : Job S). x.me) jobs k b.was b.is_was;
        found = b.left;
        is_found = b.is_left;
        gives = gives_at (kind_at walkers k) b.was.me t b.left n old new k (tree_of j.0.role) put goes;
      }
