-- Lines that may come one after another can be ended: whatever is held may be released.
use Rattle.std.proofs.Common.{◌≡◌, ℕ, zero, suc, ◌+◌, ◌*◌, ◌/◌, ◌%◌, ◌<◌, ◌≤◌, inl, inr, List, [], ◌∷◌, refl, ap, ◌∙◌, true, false, cond, arith}
use Rattle.std.proofs.lemmas.Bool.Decides.{eqb_tells}
use Rattle.larch_actions.specs.declared.event.Layout.{Layout}
use Rattle.larch_actions.specs.Layout.{IsLawful}
use Rattle.script_text.proofs.Layouts.{few_threads}
use Rattle.script_text.specs.declared.line.Line.{Line}
use Rattle.script_text.specs.declared.line.Operation.TheVariants.{Release}
use Rattle.script_text.specs.Operations.{Holding, Forked, held_if, holding_after, held_after, none_held, none_forked, forked_with, forked_after, MayCome, MayFollow, AllFree}
use Rattle.script_text.specs.Table.{fate_of}
use Rattle.script_text.specs.Text.{lines_text}
use Rattle.script_text.specs.Texts.{IsRest}
use Rattle.script_text.proofs.Choice.{less_or}
use Rattle.script_text.proofs.Tables.{either_bool, IsWithin, MayGoOn, held_within, none_within, within_if, goes_on, none_goes}

release : ℕ → ℕ → Line
release t m = record { thread = record { 0 = t }; operation = Release (record { 0 = m }) }

-- the releases of what is held among the first k entries of the table
releases : ℕ → Holding → List Line
releases zero h = []
releases (suc k) h = cond (h (k / 64) (k % 64)) (release (k / 64) (k % 64) ∷ releases k (held_if false h (k / 64) (k % 64))) (releases k h)

-- a release takes away
held_less : (h : Holding) (t m u n : ℕ) → held_if false h t m u n ≡ true → (h u n ≡ true) × ((t ≡ u) × (m ≡ n) → ⊥)
held_less h t m u n e =
    elim (eqb_tells t u) [
      | inl p ↦
          elim (eqb_tells m n) [
            | inl q ↦ let k = rw (p.0, q.0) at e in absurd (cc)
            | inr q ↦ (rw (p.0, q.0) at e, λ s. q.1 s.1)
          ]
      | inr p ↦ (rw p.0 at e, λ s. p.1 s.0)
    ]

releases_follow : (l : Layout) (k : ℕ) (h : Holding) (f : Forked) → IsWithin l h → MayGoOn l.version h f → MayFollow l h f (releases k h)
unfolding releases release
releases_follow l zero h f w go = tt
releases_follow l (suc k) h f w go =
    let t = k / 64 in
    let m = k % 64 in
    elim (either_bool (h t m)) [
      | inl p ↦ let b = w t m p in rw p (record { thread = b.0; named = (b.1, tt); may = p; live = go t m p }, releases_follow l k (held_if false h t m) f (within_if l false h t m b.0 b.1 w) (λ u n e. go u n (held_less h t m u n e).0))
      | inr p ↦ rw p (releases_follow l k h f w go)
    ]

apart : (k u n : ℕ) → n < 64 → k ≤ 64 * u + n → ((k / 64 ≡ u) × (k % 64 ≡ n) → ⊥) → suc k ≤ 64 * u + n
apart k u n lt le ne =
    elim (less_or k (64 * u + n) (omega (arith, le))) [
      | inl p ↦ p
      | inr p ↦ absurd (ne (omega arith, omega arith))
    ]

releases_end : (k : ℕ) (h : Holding) (u n : ℕ) → n < 64 → held_after h (releases k h) u n ≡ true → (h u n ≡ true) × (k ≤ 64 * u + n)
unfolding releases release
releases_end zero h u n lt e = (e, omega arith)
releases_end (suc k) h u n lt e =
    let t = k / 64 in
    let m = k % 64 in
    elim (either_bool (h t m)) [
      | inl p ↦
          let ih = releases_end k (held_if false h t m) u n lt (rw p at e) in
          let less = held_less h t m u n ih.0 in
          (less.0, apart k u n lt ih.1 less.1)
      | inr p ↦
          let ih = releases_end k h u n lt (rw p at e) in
          (ih.0, apart k u n lt ih.1 (λ s. let x : h t m ≡ h u n = ap (λ i. h i m) s.0 ∙ ap (λ j. h u j) s.1 in let y = ih.0 in absurd (cc)))
    ]

all_released : (l : Layout) (h : Holding) (f : Forked) → IsLawful l → IsWithin l h → MayGoOn l.version h f → AllFree (held_after h (releases 16384 h))
all_released l h f ok w go t m =
    elim (either_bool (held_after h (releases 16384 h) t m)) [
      | inl p ↦
          let inside = held_within l h f (releases 16384 h) (releases_follow l 16384 h f w go) w t m p in
          let r = releases_end 16384 h t m (omega (arith, inside.1, ok.mutexes)) p in
          absurd (omega (arith, r.1, inside.0, inside.1, few_threads l ok, ok.mutexes))
      | inr p ↦ p
    ]

-- lines may end wherever others may come
pub record CanEnd (l : Layout) (h : Holding) (f : Forked) : Type 0 where
  pub within : IsWithin l h
  pub goes : MayGoOn l.version h f

pub none_ends : (l : Layout) → CanEnd l none_held none_forked
none_ends l = record { within = none_within l; goes = none_goes l.version }

pub all_end : (l : Layout) (xs : List Line) → MayFollow l none_held none_forked xs → CanEnd l (held_after none_held xs) (forked_after none_forked xs)
all_end l xs p = record { within = held_within l none_held none_forked xs p (none_within l); goes = goes_on l none_held none_forked xs p (none_goes l.version) }

pub one_ends : (l : Layout) (h : Holding) (f : Forked) (x : Line) → CanEnd l h f → MayCome l h f x → CanEnd l (holding_after h x.thread.0 x.operation) (forked_with f (fate_of x.operation))
one_ends l h f x e m = record { within = held_within l h f (x ∷ []) (m, tt) e.within; goes = goes_on l h f (x ∷ []) (m, tt) e.goes }

pub some_rest : (l : Layout) (h : Holding) (f : Forked) → IsLawful l → CanEnd l h f → (rest : List ℕ) × IsRest l h f rest
some_rest l h f ok e = (lines_text (releases 16384 h), (releases 16384 h, releases_follow l 16384 h f e.within e.goes, all_released l h f ok e.within e.goes, refl))
