-- In the order of a run each thread that is born stands once.
use Rattle.std.proofs.Common.{◌≡◌, ◌≢◌, ◌⊎◌, inl, inr, ℕ, ◌+◌, ◌*◌, ◌<◌, ◌≤◌, Bool, true, false, List, [], ◌∷◌, ◌++◌, refl, ap, sym, subst, ◌∙◌, arith}
use Rattle.std.proofs.lemmas.Bool.{ne_eqb}
use Rattle.std.proofs.lemmas.Bool.Decides.{eqb_tells}
use Rattle.larch_actions.specs.declared.event.Layout.{Layout}
use Rattle.larch_actions.specs.declared.event.Version.{Version}
use Rattle.larch_actions.specs.declared.event.Version.TheVariants.{Two}
use Rattle.script_text.specs.declared.line.Line.{Line}
use Rattle.script_text.specs.declared.table.Fate.{Fate}
use Rattle.script_text.specs.declared.table.Fate.TheVariants as fate
use Rattle.script_text.specs.declared.line.Operation.{Operation}
use Rattle.script_text.specs.declared.line.Operation.TheVariants.{Fork, Join}
use Rattle.script_text.specs.Runs.{lines_of}
use Rattle.script_text.specs.Operations.{IsNamed, Holding, Forked, none_held, none_forked, holding_after, forked_with, forked_after, is_born, MayFollow, MayLive}
use Rattle.script_text.specs.Table.{fate_of}
use Rattle.script_run.specs.Placing.{occurs}
use Rattle.script_run.specs.Regions.{below, region, with_child}
use Rattle.script_run.proofs.Putting.{occurs_here, occurs_else}

pub occurs_append : (n : ℕ) (xs ys : List ℕ) → occurs n (xs ++ ys) ≡ occurs n xs + occurs n ys
occurs_append n [] ys = omega arith
occurs_append n (x ∷ xs) ys =
    let ih = occurs_append n xs ys in
    elim (eqb_tells x n) [ inl p ↦ rw p.0 (omega arith) | inr p ↦ rw p.0 ih ]

-- one or nothing
pub bit : Bool → ℕ
bit true = 1
bit false = 0

pub bit_true : (b : Bool) → b ≡ true → bit b ≡ 1
unfolding bit
bit_true true e = refl
bit_true false e = absurd (cc)

pub bit_false : (b : Bool) → b ≡ false → bit b ≡ 0
unfolding bit
bit_false false e = refl
bit_false true e = absurd (cc)

not_true : (b : Bool) → b ≢ true → b ≡ false
not_true true ne = absurd (ne refl)
not_true false ne = refl

pub bit_small : (b : Bool) → bit b ≤ 1
unfolding bit
bit_small true = omega arith
bit_small false = omega arith

-- how often the number stands below the roots
under : ℕ → List Line → List ℕ → ℕ
under n ys [] = 0
under n ys (r ∷ rs) = occurs n (below ys r) + under n ys rs

-- what a thread that the line forks adds below the thread t
more : Fate → ℕ → List Line → ℕ
more (fate.Begins u) n ys = occurs n (below ys u.0 ++ u.0 ∷ [])
more (fate.Awaits u) n ys = 0
more fate.Nothing n ys = 0

child_more : (f : Fate) (n : ℕ) (ys : List Line) (rest : List ℕ) → occurs n (with_child f (below ys) rest) ≡ more f n ys + occurs n rest
unfolding more
child_more (fate.Begins u) n ys rest = occurs_append n (below ys u.0 ++ u.0 ∷ []) rest
child_more (fate.Awaits u) n ys rest = omega arith
child_more fate.Nothing n ys rest = omega arith

under_more : (n : ℕ) (x : Line) (ys : List Line) (rs : List ℕ) → under n (x ∷ ys) rs ≡ occurs x.thread.0 rs * more (fate_of x.operation) n ys + under n ys rs
unfolding under
under_more n x ys [] = omega arith
under_more n x ys (r ∷ rs) =
    let ih = under_more n x ys rs in
    elim (eqb_tells x.thread.0 r) [
      | inl p ↦
          let a : occurs n (below (x ∷ ys) r) ≡ more (fate_of x.operation) n ys + occurs n (below ys r) = rw p.0 (child_more (fate_of x.operation) n ys (below ys r)) in
          let b : occurs x.thread.0 (r ∷ rs) ≡ occurs x.thread.0 rs + 1 = occurs_here x.thread.0 r rs (sym p.1) in
          rw b (grind (arith, a, ih))
      | inr p ↦
          let a : occurs n (below (x ∷ ys) r) ≡ occurs n (below ys r) = rw p.0 refl in
          let b : occurs x.thread.0 (r ∷ rs) ≡ occurs x.thread.0 rs = occurs_else x.thread.0 r rs (λ e. p.1 (sym e)) in
          rw b (omega (arith, a, ih))
    ]

-- the roots are the threads that are born
abbrev AreBorn : Forked → List ℕ → Type 0
AreBorn g roots = (n : ℕ) → occurs n roots ≡ bit (is_born g n)

-- whom the line forks
news : Fate → List ℕ
news (fate.Begins u) = u.0 ∷ []
news (fate.Awaits u) = []
news fate.Nothing = []

same_sum : (f : Fate) (n : ℕ) (ys : List Line) (rs : List ℕ) → occurs n rs + more f n ys + under n ys rs ≡ occurs n (news f ++ rs) + under n ys (news f ++ rs)
unfolding more news under
same_sum (fate.Begins u) n ys rs =
    let a = occurs_append n (below ys u.0) (u.0 ∷ []) in
    let b : occurs n (u.0 ∷ rs) ≡ occurs n (u.0 ∷ []) + occurs n rs = occurs_append n (u.0 ∷ []) rs in
    omega (arith, a, b)
same_sum (fate.Awaits u) n ys rs = omega arith
same_sum fate.Nothing n ys rs = omega arith

born_next : (g : Forked) (f : Fate) (t : ℕ) (rs : List ℕ) → MayLive Two g t f → AreBorn g rs → AreBorn (forked_with g f) (news f ++ rs)
unfolding news
born_next g (fate.Begins u) t rs may born n =
    let old = born n in
    elim (eqb_tells u.0 n) [
      | inl p ↦
          let none : is_born g n ≡ false = subst (λ (i : ℕ). is_born g i ≡ false) p.1 may.1 in
          let was = bit_false (is_born g n) none in
          let now : is_born (forked_with g (fate.Begins u)) n ≡ true = rw p.0 (elim (eqb_tells n 0) [ inl q ↦ rw q.0 refl | inr q ↦ rw q.0 refl ]) in
          let one = bit_true (is_born (forked_with g (fate.Begins u)) n) now in
          let here : occurs n (u.0 ∷ rs) ≡ occurs n rs + 1 = occurs_here n u.0 rs p.1 in
          omega (arith, old, was, one, here)
      | inr p ↦ rw p.0 old
    ]
born_next g (fate.Awaits u) t rs may born n = born n
born_next g fate.Nothing t rs may born n = born n

under_none : (n : ℕ) (rs : List ℕ) → under n [] rs ≡ 0
unfolding under
under_none n [] = refl
under_none n (r ∷ rs) = let ih = under_none n rs in omega (arith, ih)

lives_born : (g : Forked) (t : ℕ) (f : Fate) → MayLive Two g t f → is_born g t ≡ true
lives_born g t f may = may.0

-- each thread that is born in the end is a root, or stands below one, once
once_from : (l : Layout) (h : Holding) (g : Forked) (ys : List Line) (rs : List ℕ) → l.version ≡ Two → MayFollow l h g ys → AreBorn g rs → (n : ℕ) → occurs n rs + under n ys rs ≡ bit (is_born (forked_after g ys) n)
once_from l h g [] rs two f born n = let a = under_none n rs in let b = born n in omega (arith, a, b)
once_from l h g (x ∷ ys) rs two f born n =
    let fate = fate_of x.operation in
    let live : MayLive Two g x.thread.0 fate = subst (λ (v : Version). MayLive v g x.thread.0 fate) two f.0.live in
    let ih = once_from l (holding_after h x.thread.0 x.operation) (forked_with g fate) ys (news fate ++ rs) two f.1 (born_next g fate x.thread.0 rs live born) n in
    let one : occurs x.thread.0 rs ≡ 1 = born x.thread.0 ∙ bit_true (is_born g x.thread.0) (lives_born g x.thread.0 fate live) in
    let a : under n (x ∷ ys) rs ≡ 1 * more fate n ys + under n ys rs = under_more n x ys rs ∙ ap (λ k. k * more fate n ys + under n ys rs) one in
    let b = same_sum fate n ys rs in
    omega (arith, a, b, ih)

roots : AreBorn none_forked (0 ∷ [])
roots n = elim (eqb_tells n 0) [
  | inl p ↦ let a : occurs n (0 ∷ []) ≡ 1 = occurs_here n 0 [] (sym p.1) in rw p.0 (a ∙ sym (bit_true true refl))
  | inr p ↦ let a : occurs n (0 ∷ []) ≡ 0 = occurs_else n 0 [] (λ e. p.1 (sym e)) in rw p.0 (a ∙ sym (bit_false false refl))
]

-- in the region of thread 0 each thread that is born stands once, and no other
pub region_once : (l : Layout) (xs : List Line) → l.version ≡ Two → MayFollow l none_held none_forked xs → (n : ℕ) → occurs n (region xs 0) ≡ bit (is_born (forked_after none_forked xs) n)
unfolding under
region_once l xs two f n =
    let a = once_from l none_held none_forked xs (0 ∷ []) two f roots n in
    let b = occurs_append n (below xs 0) (0 ∷ []) in
    omega (arith, a, b)

-- a thread that isn't born has no lines
none_of : (l : Layout) (h : Holding) (g : Forked) (ys : List Line) (rs : List ℕ) → l.version ≡ Two → MayFollow l h g ys → AreBorn g rs → (n : ℕ) → is_born (forked_after g ys) n ≡ false → lines_of n ys ≡ []
none_of l h g [] rs two f born n not = refl
none_of l h g (x ∷ ys) rs two f born n not =
    let fate = fate_of x.operation in
    let live : MayLive Two g x.thread.0 fate = subst (λ (v : Version). MayLive v g x.thread.0 fate) two f.0.live in
    elim (eqb_tells x.thread.0 n) [
      | inl p ↦
          let there : is_born g n ≡ true = subst (λ (i : ℕ). is_born g i ≡ true) p.1 (lives_born g x.thread.0 fate live) in
          let a = born n ∙ bit_true (is_born g n) there in
          let b = once_from l h g (x ∷ ys) rs two f born n in
          let c = bit_false (is_born (forked_after g (x ∷ ys)) n) not in
          absurd (omega (arith, a, b, c))
      | inr p ↦ rw p.0 (none_of l (holding_after h x.thread.0 x.operation) (forked_with g fate) ys (news fate ++ rs) two f.1 (born_next g fate x.thread.0 rs live born) n not)
    ]

pub no_lines : (l : Layout) (xs : List Line) → l.version ≡ Two → MayFollow l none_held none_forked xs → (n : ℕ) → is_born (forked_after none_forked xs) n ≡ false → lines_of n xs ≡ []
no_lines l xs two f n not = none_of l none_held none_forked xs (0 ∷ []) two f roots n not

-- who is forked is of the layout
fork_within : (l : Layout) (o : Operation) (g : Forked) (n : ℕ) → IsNamed l o → forked_with g (fate_of o) n ≡ true → (g n ≡ true) ⊎ (n < l.threads)
fork_within l (Fork u) g n named is = elim (eqb_tells u.0 n) [
  | inl p ↦ inr (subst (λ (i : ℕ). i < l.threads) p.1 named.0)
  | inr p ↦ inl (rw p.0 at is)
]
fork_within l (Join u) g n named is = inl is
fork_within l _ g n named is = inl is

within_from : (l : Layout) (h : Holding) (g : Forked) (ys : List Line) → MayFollow l h g ys → (n : ℕ) → forked_after g ys n ≡ true → (g n ≡ true) ⊎ (n < l.threads)
within_from l h g [] f n is = inl is
within_from l h g (x ∷ ys) f n is =
    elim (within_from l (holding_after h x.thread.0 x.operation) (forked_with g (fate_of x.operation)) ys f.1 n is) [
      | inl was ↦ fork_within l x.operation g n f.0.named was
      | inr low ↦ inr low
    ]

-- a thread past those of the layout is not born
pub past_unborn : (l : Layout) (xs : List Line) → MayFollow l none_held none_forked xs → (n : ℕ) → 1 ≤ n → l.threads ≤ n → is_born (forked_after none_forked xs) n ≡ false
past_unborn l xs f n some past =
    rw (ne_eqb n 0 (λ e. omega arith)) (not_true (forked_after none_forked xs n) (λ is. elim (within_from l none_held none_forked xs f n is) [ inl e ↦ cc | inr low ↦ omega arith ]))
