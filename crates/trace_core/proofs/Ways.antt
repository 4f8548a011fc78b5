-- What reading the layout line gives, told by what its parts gave.
use Rattle.std.proofs.Common.{◌≡◌, ℕ, ◌+◌, List, [], refl, ap, sym, ◌∙◌, Ok, Err}
use Rattle.std.specs.Prelude.{codes}
use Rattle.std.specs.declared.result.Result.{Result}
use Rattle.larch_actions.specs.declared.event.Version.{Version}
use Rattle.larch_actions.specs.Layout.{most_in}
use Rattle.exact_text.specs.declared.stop.Stop.{Stop}
use Rattle.exact_text.specs.Reading.{Reader, ◌>>=◌, word_at, after_word, both, as_value, number_at}
use Rattle.trace_core.specs.Lines.{named_at, layout_from, counts_at}

flat : {A B C : Type 0} (r : Result A Stop) (f : A → Result B Stop) (g : B → Result C Stop) → (r >>= f) >>= g ≡ r >>= (λ x. f x >>= g)
flat (Ok x) f g = refl
flat (Err s) f g = refl

-- the counts after that of the threads, each read as a name
abbrev last_names : Reader (ℕ × (ℕ × ℕ))
last_names = both (named_at (codes "mutexes ") 65 32) (λ _. both (named_at (codes "conditions ") 65 32) (λ _. named_at (codes "semaphores ") 65 10))

abbrev from_conditions : Reader (ℕ × ℕ)
from_conditions = after_word (codes "conditions ") (both (number_at 0 65 32) (λ _. after_word (codes "semaphores ") (number_at 0 65 10)))

-- and as they stand in the reader of the line
abbrev last_numbers : Reader (ℕ × (ℕ × ℕ))
last_numbers = after_word (codes "mutexes ") (both (number_at 0 65 32) (λ _. from_conditions))

named_both : {Y : Type 0} (word : List ℕ) (read : ℕ → Reader Y) (bytes : List ℕ) → both (named_at word 65 32) read bytes ≡ after_word word (both (number_at 0 65 32) read) bytes
named_both word read bytes = flat (word_at word bytes) (number_at 0 65 32) (λ x. read x.0 x.1 >>= λ y. Ok ((x.0, y.0), y.1))

last_same : (bytes : List ℕ) → last_names bytes ≡ last_numbers bytes
last_same bytes =
    named_both (codes "mutexes ") (λ _. both (named_at (codes "conditions ") 65 32) (λ _. named_at (codes "semaphores ") 65 10)) bytes
    ∙ ap (λ (read : Reader (ℕ × ℕ)). after_word (codes "mutexes ") (both (number_at 0 65 32) (λ _. read)) bytes)
    (λ i rest. named_both (codes "conditions ") (λ _. named_at (codes "semaphores ") 65 10) rest i)

abbrev counted : ℕ → Result ((ℕ × (ℕ × ℕ)) × List ℕ) Stop → Result ((ℕ × (ℕ × (ℕ × ℕ))) × List ℕ) Stop
counted t r = r >>= λ y. Ok ((t, y.0), y.1)

laid : (v : Version) (t : ℕ) (r : Result ((ℕ × (ℕ × ℕ)) × List ℕ) Stop) → as_value (layout_from v) (λ _. counted t r) [] ≡ as_value (λ p. layout_from v (t, p)) (λ _. r) []
laid v t (Ok x) = refl
laid v t (Err s) = refl

pub counts_from : (v : Version) (bytes rest more : List ℕ) (t : ℕ) → word_at (codes "threads ") bytes ≡ Ok rest → number_at 1 (most_in v + 1) 32 rest ≡ Ok (t, more)
    → counts_at v bytes ≡ as_value (λ p. layout_from v (t, p)) last_names more
counts_from v bytes rest more t e f =
    let h : counts_at v bytes ≡ as_value (λ p. layout_from v (t, p)) last_numbers more = rw (e, f) (laid v t (last_numbers more)) in
    h ∙ ap (λ r. as_value (λ p. layout_from v (t, p)) (λ _. r) []) (sym (last_same more))
