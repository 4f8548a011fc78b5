-- Who stands in the regions of threads, and who has no lines yet.
use Rattle.std.proofs.Common.{◌≡◌, ◌≢◌, ℕ, suc, ◌+◌, ◌<◌, inl, inr, ◌⊎◌, List, [], ◌∷◌, ◌++◌, length, get_or, drop, refl, ap, sym, subst, ◌∙◌, Bool, true, false, Some, add-one}
use Rattle.std.specs.Prelude.{slice_get}
use Rattle.std.proofs.Math.Seq.{drop-cons}
use Rattle.std.proofs.lemmas.Option.{slice_get_within, get_or_from_slice_get}
use Rattle.std.proofs.lemmas.Bool.{eq-eqb, ne_eqb, false≢true}
use Rattle.std.proofs.lemmas.Bool.Decides.{eqb_tells}
use Rattle.larch_actions.specs.declared.event.Layout.{Layout}
use Rattle.larch_actions.specs.declared.event.Version.{Version}
use Rattle.larch_actions.specs.declared.event.Version.TheVariants.{Two}
use Rattle.larch_actions.specs.declared.event.ThreadId.{ThreadId}
use Rattle.script_text.specs.declared.line.Line.{Line}
use Rattle.script_text.specs.declared.line.Operation.{Operation}
use Rattle.script_text.specs.declared.line.Operation.TheVariants.{Fork}
use Rattle.script_text.specs.declared.table.Fate.{Fate}
use Rattle.script_text.specs.declared.table.Fate.TheVariants as fate
use Rattle.script_text.specs.declared.table.Use.{Use}
use Rattle.script_text.specs.declared.table.Use.TheVariants.{Takes, Gives, Needs, Nothing}
use Rattle.script_text.specs.Table.{fate_of, use_of}
use Rattle.script_text.specs.Operations.{Holding, Forked, is_born, forked_with, forked_after, holding_with, holding_after, held_after, MayLive, MayMeet, MayFollow}
use Rattle.script_text.specs.Runs.{lines_of}
use Rattle.script_text.proofs.Tables.{born_with}
use Rattle.script_run.specs.Regions.{with_child, below}

-- the line by which the thread t forks the thread u
abbrev pub fork_line : ℕ → ℕ → Line
fork_line t u = record { thread = record { 0 = t }; operation = Fork (record { 0 = u }) }

-- u is none of these
abbrev pub Lacks : ℕ → List ℕ → Type 0
Lacks u [] = Prim.Unit {0}
Lacks u (x ∷ xs) = (x ≢ u) × Lacks u xs

pub lacks_append : (u : ℕ) (xs ys : List ℕ) → Lacks u xs → Lacks u ys → Lacks u (xs ++ ys)
lacks_append u [] ys a b = b
lacks_append u (x ∷ xs) ys a b = (a.0, lacks_append u xs ys a.1 b)

-- what a line that the thread may have meets, in version two
pub meets : (v : Version) (f : Forked) (t : ℕ) (x : Fate) → v ≡ Two → MayLive v f t x → (is_born f t ≡ true) × MayMeet f t x
meets v f t x two may = subst (λ (w : Version). MayLive w f t x) two may

lacks_child : (f : Forked) (t u : ℕ) (x : Fate) (rest : ℕ → List ℕ) (own : List ℕ) → is_born f u ≡ true → MayMeet f t x → ((k : ℕ) → Lacks u (rest k)) → Lacks u own → Lacks u (with_child x rest own)
lacks_child f t u (fate.Begins v) rest own born may none lacks =
    lacks_append u (rest v.0 ++ v.0 ∷ []) own
    (lacks_append u (rest v.0) (v.0 ∷ []) (none v.0) ((λ e. false≢true (sym may ∙ ap (is_born f) e ∙ born)), tt))
    lacks
lacks_child f t u (fate.Awaits v) rest own born may none lacks = lacks
lacks_child f t u fate.Nothing rest own born may none lacks = lacks

-- who is there already is not forked by these lines
pub unborn_below : (l : Layout) (h : Holding) (f : Forked) (xs : List Line) (u : ℕ) → l.version ≡ Two → MayFollow l h f xs → is_born f u ≡ true → (t : ℕ) → Lacks u (below xs t)
unborn_below l h f [] u two follow born t = tt
unborn_below l h f (x ∷ xs) u two follow born t =
    let ih = unborn_below l (holding_after h x.thread.0 x.operation) (forked_with f (fate_of x.operation)) xs u two follow.1 (born_with f (fate_of x.operation) u born) in
    elim (eqb_tells x.thread.0 t) [
      | inl p ↦ rw p.0 (lacks_child f x.thread.0 u (fate_of x.operation) (below xs) (below xs t) born (meets l.version f x.thread.0 (fate_of x.operation) two follow.0.live).1 ih (ih t))
      | inr p ↦ rw p.0 (ih t)
    ]

either : (b : Bool) → (b ≡ true) ⊎ (b ≡ false)
either true = inl refl
either false = inr refl

unborn_with : (f : Forked) (x : Fate) (u : ℕ) → is_born (forked_with f x) u ≡ false → is_born f u ≡ false
unborn_with f x u e =
    elim (either (is_born f u)) [
      | inl p ↦ absurd (false≢true (sym e ∙ born_with f x u p))
      | inr p ↦ p
    ]

pub unborn_before : (f : Forked) (xs : List Line) (u : ℕ) → is_born (forked_after f xs) u ≡ false → is_born f u ≡ false
unborn_before f [] u e = e
unborn_before f (x ∷ xs) u e = unborn_with f (fate_of x.operation) u (unborn_before (forked_with f (fate_of x.operation)) xs u e)

-- a thread that isn't there after the lines has none of them
pub no_lines : (l : Layout) (h : Holding) (f : Forked) (xs : List Line) (u : ℕ) → l.version ≡ Two → MayFollow l h f xs → is_born (forked_after f xs) u ≡ false → lines_of u xs ≡ []
no_lines l h f [] u two follow none = refl
no_lines l h f (x ∷ xs) u two follow none =
    let before = unborn_before f (x ∷ xs) u none in
    let born = (meets l.version f x.thread.0 (fate_of x.operation) two follow.0.live).0 in
    let other : x.thread.0 ≢ u = λ e. false≢true (sym before ∙ ap (is_born f) (sym e) ∙ born) in
    rw (ne_eqb x.thread.0 u other) (no_lines l (holding_after h x.thread.0 x.operation) (forked_with f (fate_of x.operation)) xs u two follow.1 none)

held_else : (h : Holding) (t u m : ℕ) (x : Use) → t ≢ u → holding_with h t x u m ≡ h u m
held_else h t u m (Takes k) ne = rw (ne_eqb t u ne) refl
held_else h t u m (Gives k) ne = rw (ne_eqb t u ne) refl
held_else h t u m (Needs k) ne = refl
held_else h t u m Nothing ne = refl

-- and what it holds is what it held before them
pub no_holding : (l : Layout) (h : Holding) (f : Forked) (xs : List Line) (u m : ℕ) → l.version ≡ Two → MayFollow l h f xs → is_born (forked_after f xs) u ≡ false → held_after h xs u m ≡ h u m
no_holding l h f [] u m two follow none = refl
no_holding l h f (x ∷ xs) u m two follow none =
    let before = unborn_before f (x ∷ xs) u none in
    let born = (meets l.version f x.thread.0 (fate_of x.operation) two follow.0.live).0 in
    let other : x.thread.0 ≢ u = λ e. false≢true (sym before ∙ ap (is_born f) (sym e) ∙ born) in
    no_holding l (holding_after h x.thread.0 x.operation) (forked_with f (fate_of x.operation)) xs u m two follow.1 none ∙ held_else h x.thread.0 u m (use_of x.operation) other

no_child : (o : Operation) (rest : ℕ → List ℕ) (own : List ℕ) → ((u : ThreadId) → o ≡ Fork u → ⊥) → with_child (fate_of o) rest own ≡ own
no_child (Fork u) rest own none = absurd (none u refl)
no_child _ rest own none = refl

pub below_else : (x : Line) (xs : List Line) (t : ℕ) → (x.thread.0 ≡ t → (u : ThreadId) → x.operation ≡ Fork u → ⊥) → below (x ∷ xs) t ≡ below xs t
below_else x xs t none =
    elim (eqb_tells x.thread.0 t) [
      | inl p ↦ rw p.0 (no_child x.operation (below xs) (below xs t) (none p.1))
      | inr p ↦ rw p.0 refl
    ]

-- a line by which the thread forks none
pub below_step : (xs : List Line) (i t : ℕ) (d : Line) → i < length xs → ((get_or xs i d).thread.0 ≡ t → (u : ThreadId) → (get_or xs i d).operation ≡ Fork u → ⊥) → below (drop i xs) t ≡ below (drop (i + 1) xs) t
below_step xs i t d low none =
    ap (λ ys. below ys t) (drop-cons xs i d low) ∙ below_else (get_or xs i d) (drop (suc i) xs) t none ∙ ap (λ n. below (drop n xs) t) (sym (add-one i))

below_here : (t u : ℕ) (xs : List Line) → below (fork_line t u ∷ xs) t ≡ (below xs u ++ u ∷ []) ++ below xs t
below_here t u xs = rw (eq-eqb t t refl) refl

-- the line by which it forks u
pub below_fork : (xs : List Line) (i t u : ℕ) → slice_get xs i ≡ Some (fork_line t u) → below (drop i xs) t ≡ (below (drop (i + 1) xs) u ++ u ∷ []) ++ below (drop (i + 1) xs) t
below_fork xs i t u at =
    let x = fork_line t u in
    ap (λ ys. below ys t) (drop-cons xs i x (slice_get_within xs i x at) ∙ ap (λ y. y ∷ drop (suc i) xs) (get_or_from_slice_get xs i x x at)) ∙ below_here t u (drop (suc i) xs)
    ∙ ap (λ n. (below (drop n xs) u ++ u ∷ []) ++ below (drop n xs) t) (sym (add-one i))
