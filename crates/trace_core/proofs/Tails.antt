-- One name after another.
use Rattle.std.proofs.Common.{◌≡◌, ◌≢◌, ℕ, zero, suc, ◌+◌, ◌-◌, ◌<◌, ◌≤◌, List, ◌∷◌, refl, true, Ok, Err, arith}
use Rattle.std.proofs.lemmas.Bool.{eq-eqb, ne_eqb}
use Rattle.std.specs.Prelude.{codes}
use Rattle.std.specs.declared.result.Result.{Result}
use Rattle.larch_actions.specs.declared.thread_set.ThreadSet.{ThreadSet}
use Rattle.larch_actions.specs.Sets.{set_of}
use Rattle.exact_text.specs.declared.stop.Stop.{Stop}
use Rattle.exact_text.specs.Reading.{Reader, word_at, as_value, ◌>>=◌}
use Rattle.trace_core.specs.Names.{number_from, tail_at, onto}

-- the set of the names seen and those to come
abbrev pub set_past : List ℕ → ℕ → ℕ → ℕ → Reader ThreadSet
set_past seen fuel least bound = as_value (λ ts. set_of (onto seen ts)) (tail_at fuel least bound)

pub tail-stops : (seen : List ℕ) (fuel least bound : ℕ) (bytes : List ℕ) (e : Stop) → least < bound → bound ≤ least + fuel → number_from true least bound bytes ≡ Err e → set_past seen fuel least bound bytes ≡ Err e
tail-stops seen zero least bound bytes e some fits h = absurd (omega arith)
tail-stops seen (suc fuel) least bound bytes e some fits h = rw h refl

pub tail-ends : (seen : List ℕ) (fuel least bound : ℕ) (bytes rest : List ℕ) (t c : ℕ) → least < bound → bound ≤ least + fuel → number_from true least bound bytes ≡ Ok ((t, c), rest) → c ≡ 10
    → set_past seen fuel least bound bytes ≡ Ok (set_of (t ∷ seen), rest)
tail-ends seen zero least bound bytes rest t c some fits h last = absurd (omega arith)
tail-ends seen (suc fuel) least bound bytes rest t c some fits h last = rw (h, eq-eqb c 10 last) refl

pub tail-breaks : (seen : List ℕ) (fuel least bound : ℕ) (bytes rest : List ℕ) (t c : ℕ) (e : Stop) → least < bound → bound ≤ least + fuel → number_from true least bound bytes ≡ Ok ((t, c), rest) → c ≢ 10
    → word_at (codes "t") rest ≡ Err e → set_past seen fuel least bound bytes ≡ Err e
tail-breaks seen zero least bound bytes rest t c e some fits h more w = absurd (omega arith)
tail-breaks seen (suc fuel) least bound bytes rest t c e some fits h more w = rw (h, ne_eqb c 10 more, w) refl

abbrev under : ℕ → ℕ → List ℕ × List ℕ → ((ℕ × ℕ) × List ℕ) × List ℕ
under t c y = (((t, c), y.0), y.1)

abbrev joined : ((ℕ × ℕ) × List ℕ) × List ℕ → List ℕ × List ℕ
joined x = (x.0.0.0 ∷ x.0.1, x.1)

abbrev as_set : List ℕ → List ℕ × List ℕ → ThreadSet × List ℕ
as_set seen x = (set_of (onto seen x.0), x.1)

one_more : (r : Result (List ℕ × List ℕ) Stop) (t c : ℕ) (seen : List ℕ) → (r >>= λ x. Ok (as_set (t ∷ seen) x)) ≡ (((r >>= λ y. Ok (under t c y)) >>= λ x. Ok (joined x)) >>= λ x. Ok (as_set seen x))
one_more (Ok x) t c seen = refl
one_more (Err e) t c seen = refl

-- a name was read, and more come after a space
pub tail-goes_on : (seen : List ℕ) (fuel least bound : ℕ) (bytes rest rest' : List ℕ) (t c : ℕ) → least < bound → bound ≤ least + fuel → number_from true least bound bytes ≡ Ok ((t, c), rest) → c ≢ 10
    → word_at (codes "t") rest ≡ Ok rest' → set_past (t ∷ seen) (fuel - 1) (t + 1) bound rest' ≡ set_past seen fuel least bound bytes
tail-goes_on seen zero least bound bytes rest rest' t c some fits h more w = absurd (omega arith)
tail-goes_on seen (suc fuel) least bound bytes rest rest' t c some fits h more w =
    let one : suc fuel - 1 ≡ fuel = omega arith in
    rw (h, ne_eqb c 10 more, w, one) (one_more (tail_at fuel (t + 1) bound rest') t c seen)
