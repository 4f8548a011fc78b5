-- The tables of who holds what, and of who was forked.
use Rattle.std.proofs.Common.{◌≡◌, ℕ, zero, suc, ◌+◌, ◌*◌, ◌/◌, ◌%◌, ◌<◌, ◌⊎◌, inl, inr, List, [], ◌∷◌, length, get_or, replicate, refl, ap, sym, subst, ◌∙◌, Bool, true, false, arith}
use Rattle.std.proofs.lemmas.Bool.Decides.{eqb_tells}
use Rattle.std.proofs.lemmas.List.{length-replicate}
use Rattle.std.specs.List.{list_all}
use Rattle.std.specs.Prelude.{not}
use Rattle.larch_actions.specs.declared.event.Layout.{Layout}
use Rattle.larch_actions.specs.declared.event.Version.{Version}
use Rattle.larch_actions.specs.declared.event.Version.TheVariants.{One, Two}
use Rattle.script_text.specs.declared.line.Line.{Line}
use Rattle.script_text.specs.declared.line.Operation.{Operation}
use Rattle.script_text.specs.declared.table.Use.{Use}
use Rattle.script_text.specs.declared.table.Use.TheVariants.{Takes, Gives, Needs, Nothing}
use Rattle.script_text.specs.declared.table.Fate.{Fate}
use Rattle.script_text.specs.declared.table.Fate.TheVariants as fate
use Rattle.script_text.specs.Table.{use_of, fate_of}
use Rattle.script_text.proofs.Rows.{named_use}
use Rattle.script_text.specs.Operations.{Holding, Forked, none_held, none_forked, held_if, holding_with, holding_after, held_after, forked_with, forked_after, is_born, MayLive, MayFollow, IsNamed, AllFree}
use Rattle.script_text.specs.Held.{Shows, Marks, UseWithin}

-- what is held is within the layout
abbrev pub IsWithin : Layout → Holding → Type 0
IsWithin l h = (t m : ℕ) → h t m ≡ true → (t < l.threads) × (m < l.mutexes)

pub within_if : (l : Layout) (b : Bool) (h : Holding) (t m : ℕ) → t < l.threads → m < l.mutexes → IsWithin l h → IsWithin l (held_if b h t m)
within_if l b h t m lt lm w u n e =
    elim (eqb_tells t u) [
      | inl p ↦
          elim (eqb_tells m n) [
            | inl q ↦ (omega (arith, p.1), omega (arith, q.1))
            | inr q ↦ w u n (rw (p.0, q.0) at e)
          ]
      | inr p ↦ w u n (rw p.0 at e)
    ]

within_with : (l : Layout) (h : Holding) (t : ℕ) (u : Use) → t < l.threads → UseWithin l u → IsWithin l h → IsWithin l (holding_with h t u)
within_with l h t (Takes m) lt n w = within_if l true h t m.0 lt n w
within_with l h t (Gives m) lt n w = within_if l false h t m.0 lt n w
within_with l h t (Needs m) lt n w = w
within_with l h t Nothing lt n w = w

pub within_after : (l : Layout) (h : Holding) (t : ℕ) (o : Operation) → t < l.threads → IsNamed l o → IsWithin l h → IsWithin l (holding_after h t o)
within_after l h t o lt n w = within_with l h t (use_of o) lt (named_use l o n) w

pub held_within : (l : Layout) (h : Holding) (g : Forked) (xs : List Line) → MayFollow l h g xs → IsWithin l h → IsWithin l (held_after h xs)
held_within l h g [] f w = w
held_within l h g (x ∷ xs) f w =
    held_within l (holding_after h x.thread.0 x.operation) (forked_with g (fate_of x.operation)) xs f.1 (within_after l h x.thread.0 x.operation f.0.thread f.0.named w)

-- each thread that holds something may have a line that does nothing with a thread
abbrev pub MayGoOn : Version → Holding → Forked → Type 0
MayGoOn v h g = (t m : ℕ) → h t m ≡ true → MayLive v g t fate.Nothing

goes_if : (v : Version) (b : Bool) (h : Holding) (g : Forked) (t m : ℕ) → MayLive v g t fate.Nothing → MayGoOn v h g → MayGoOn v (held_if b h t m) g
goes_if v b h g t m may go u n e =
    elim (eqb_tells t u) [
      | inl p ↦ subst (λ (i : ℕ). MayLive v g i fate.Nothing) p.1 may
      | inr p ↦ go u n (rw p.0 at e)
    ]

goes_with : (v : Version) (h : Holding) (g : Forked) (t : ℕ) (u : Use) → MayLive v g t fate.Nothing → MayGoOn v h g → MayGoOn v (holding_with h t u) g
goes_with v h g t (Takes m) may go = goes_if v true h g t m.0 may go
goes_with v h g t (Gives m) may go = goes_if v false h g t m.0 may go
goes_with v h g t (Needs m) may go = go
goes_with v h g t Nothing may go = go

-- who was there stays there
pub born_with : (g : Forked) (x : Fate) (t : ℕ) → is_born g t ≡ true → is_born (forked_with g x) t ≡ true
born_with g (fate.Begins u) t e =
    elim (eqb_tells t 0) [
      | inl p ↦ rw p.0 refl
      | inr p ↦ let k = rw p.0 at e in rw p.0 (elim (eqb_tells u.0 t) [ inl q ↦ rw q.0 refl | inr q ↦ rw q.0 k ])
    ]
born_with g (fate.Awaits u) t e = e
born_with g fate.Nothing t e = e

lives_with : (v : Version) (g : Forked) (x : Fate) (t : ℕ) → MayLive v g t fate.Nothing → MayLive v (forked_with g x) t fate.Nothing
lives_with One g x t may = refl
lives_with Two g x t may = (born_with g x t may.0, tt)

lives_at_all : (v : Version) (g : Forked) (x : Fate) (t : ℕ) → MayLive v g t x → MayLive v g t fate.Nothing
lives_at_all One g x t may = refl
lives_at_all Two g x t may = (may.0, tt)

pub goes_on : (l : Layout) (h : Holding) (g : Forked) (xs : List Line) → MayFollow l h g xs → MayGoOn l.version h g → MayGoOn l.version (held_after h xs) (forked_after g xs)
goes_on l h g [] f go = go
goes_on l h g (x ∷ xs) f go =
    let k = goes_with l.version h g x.thread.0 (use_of x.operation) (lives_at_all l.version g (fate_of x.operation) x.thread.0 f.0.live) go in
    goes_on l (holding_after h x.thread.0 x.operation) (forked_with g (fate_of x.operation)) xs f.1 (λ t m e. lives_with l.version g (fate_of x.operation) t (k t m e))

pub none_goes : (v : Version) → MayGoOn v none_held none_forked
none_goes v t m e = absurd (cc)

pub none_within : (l : Layout) → IsWithin l none_held
none_within l t m e = absurd (cc)

get-replicate : (n k : ℕ) → get_or (replicate n false) k false ≡ false
get-replicate zero k = refl
get-replicate (suc n) zero = refl
get-replicate (suc n) (suc k) = get-replicate n k

shows_size : (n : ℕ) → n ≡ 16384 → Shows (replicate n false) none_held
shows_size n e = record { size = length-replicate n false ∙ e; entry = λ t m lt lm. get-replicate n (64 * t + m) }

pub shows_none : Shows (replicate 16384 false) none_held
shows_none = shows_size 16384 refl

marks_size : (n : ℕ) → n ≡ 256 → Marks (replicate n false) none_forked
marks_size n e = record { size = length-replicate n false ∙ e; entry = λ t lt. get-replicate n t }

pub marks_none : Marks (replicate 256 false) none_forked
marks_none = marks_size 256 refl

all_false : (xs : List Bool) → list_all (λ b. not b) xs ≡ true → (k : ℕ) → get_or xs k false ≡ false
all_false [] e k = refl
all_false (true ∷ xs) e k = absurd (cc)
all_false (false ∷ xs) e zero = refl
all_false (false ∷ xs) e (suc k) = all_false xs e k

some_true : (xs : List Bool) → list_all (λ b. not b) xs ≡ false → (k : ℕ) × (k < length xs) × (get_or xs k false ≡ true)
some_true [] e = absurd (cc)
some_true (true ∷ xs) e = (0, omega arith, refl)
some_true (false ∷ xs) e = let r = some_true xs e in (suc r.0, omega (arith, r.1), r.2)

pub either_bool : (b : Bool) → (b ≡ true) ⊎ (b ≡ false)
either_bool true = inl refl
either_bool false = inr refl

pub free_from : (table : List Bool) (h : Holding) → Shows table h → ((t m : ℕ) → h t m ≡ true → (t < 256) × (m < 64)) → list_all (λ b. not b) table ≡ true → AllFree h
free_from table h s w e t m =
    elim (either_bool (h t m)) [
      | inl p ↦ let r = w t m p in sym (s.entry t m r.0 r.1) ∙ all_false table e (64 * t + m)
      | inr p ↦ p
    ]

pub free_to : (table : List Bool) (h : Holding) → Shows table h → AllFree h → list_all (λ b. not b) table ≡ true
free_to table h s free =
    elim (either_bool (list_all (λ b. not b) table)) [
      | inl p ↦ p
      | inr p ↦
          let r = some_true table p in
          let k : 64 * (r.0 / 64) + r.0 % 64 ≡ r.0 = omega arith in
          let low : r.0 / 64 < 256 = omega (arith, r.1, s.size) in
          let a = s.entry (r.0 / 64) (r.0 % 64) low (omega arith) in
          let b = free (r.0 / 64) (r.0 % 64) in
          let e : get_or table r.0 false ≡ false = ap (λ i. get_or table i false) (sym k) ∙ a ∙ b in
          let t = r.2 in
          absurd (cc)
    ]
