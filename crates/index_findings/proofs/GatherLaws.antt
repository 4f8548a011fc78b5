-- What the workers came by, put together.
use Rattle.std.proofs.Common.{◌≡◌, ℕ, Bool, true, false, ◌||◌, List, [], ◌∷◌, ◌++◌, Option, Some, None, refl, sym, ap, subst, inl, inr, ◌∙◌}
use Rattle.std.specs.Prelude.{IfSome}
use Rattle.std.specs.List.{list_any}
use Rattle.std.proofs.lemmas.List.Folds.{list_any-append}
use Rattle.std.specs.Option.{option_or}
use Rattle.firefly_outside.specs.Trees.{Path, Contents, Calls}
use Rattle.firefly_outside.specs.Under.{IsUnder}
use Rattle.walker.specs.Walk.{Walk, IsWalkOf}
use Rattle.walker.specs.declared.answer.WalkAnswer.{WalkAnswer}
use Rattle.walker.proofs.Reached.{dir_reached, file_reached}
use Rattle.walker.proofs.WalkLemmas.{found_unlisted}
use Rattle.index_findings.specs.declared.findings.Fault.{Fault}
use Rattle.index_findings.specs.declared.findings.Fault.TheVariants.{Dir as DirFault, File as FileFault}
use Rattle.index_findings.specs.declared.findings.Findings.{Findings}
use Rattle.index_findings.specs.Gathered.{first_fault, Ends}
use Rattle.index_findings.specs.Faults.{IsFoundFault, ReportsFault, path_of, kind_of}
use Rattle.index_findings.proofs.ReportedLaws.{reported_on}

or-none : (o : Option Fault) → option_or o None ≡ o
or-none None = refl
or-none (Some p) = refl

or-or : (a b c : Option Fault) → option_or a (option_or b c) ≡ option_or (option_or a b) c
or-or None b c = refl
or-or (Some p) b c = refl

-- the first fault with the findings of one worker more
pub first_fault-more : (fs : List Findings) (f : Findings) → first_fault (fs ++ f ∷ []) ≡ option_or (first_fault fs) f.fault
first_fault-more [] f = or-none f.fault
first_fault-more (g ∷ fs) f = ap (option_or g.fault) (first_fault-more fs f) ∙ or-or g.fault (first_fault fs) f.fault

or-false : (b : Bool) → (b || false) ≡ b
or-false true = refl
or-false false = refl

-- whether any lost something, with the findings of one worker more
pub any_lost-more : (fs : List Findings) (f : Findings) (lost : Bool) → lost ≡ list_any (λ g. g.lost) fs → (lost || f.lost) ≡ list_any (λ g. g.lost) (fs ++ f ∷ [])
any_lost-more fs f lost is =
    ap (λ b. b || f.lost) is ∙ (ap (λ b. list_any (λ (g : Findings). g.lost) fs || b) (sym (or-false f.lost)) ∙ sym (list_any-append (λ (g : Findings). g.lost) fs (f ∷ [])))

-- what was found lies under the root
fault_under : (t : Contents) (w : Walk) → IsWalkOf w t → (f : Fault) → IsFoundFault w f → IsUnder t w.root (kind_of f) (path_of f)
fault_under t w walk (DirFault path) found = dir_reached t w walk path (found_unlisted w path found)
fault_under t w walk (FileFault path) found = file_reached t w walk path found

-- the path that failed is answered, or want of memory
pub ends_fault : (tree : Option Contents) (weak : List Path) (root : Path) (stop : Option ℕ) (fault : Option Fault) (f : Fault) (count : ℕ) (calls : Calls) (w : Walk) (answer : WalkAnswer) → fault ≡ Some f
    → w.root ≡ root → IfSome tree (IsWalkOf w) → ReportsFault w f answer → Ends tree weak root stop fault count count calls calls answer
ends_fault tree weak root stop fault f count calls w answer is same walk tells =
    subst (λ (o : Option Fault). Ends tree weak root stop o count count calls calls answer) (sym is)
    (record {
      cases = elim tells [
        | inl lost ↦ inl lost.0
        | inr found ↦ inr (
          found.0,
          reported_on tree (IsWalkOf w) (λ t. IsUnder t root (kind_of f) (path_of f))
              (λ t of_tree. subst (λ (r : Path). IsUnder t r (kind_of f) (path_of f)) same (fault_under t w of_tree f found.1)) walk,
        )
      ];
      count_stays = refl;
      no_calls = refl;
    })
