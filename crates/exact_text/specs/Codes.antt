-- What it means that reading is exact.
use Rattle.std.specs.Prelude.{◌≡◌, ℕ, List, ◌++◌, Result, Ok, Err}
use Rattle.exact_text.specs.declared.stop.Stop.{Stop}
use Rattle.exact_text.specs.declared.stop.Stop.TheVariants.{More, Dead}

-- read reads the texts of the lawful values, and no others, in whatever pieces they come
pub record IsCode {X : Type 0} (lawful : X → Type 0) (text : X → List ℕ) (read : List ℕ → Result (X × List ℕ) Stop) : Type 0 where
  -- what is read stands there
  pub found : (bytes rest : List ℕ) (x : X) → read bytes ≡ Ok (x, rest) → lawful x × (bytes ≡ text x ++ rest)
  -- what stands there is read
  pub again : (x : X) (rest : List ℕ) → lawful x → read (text x ++ rest) ≡ Ok (x, rest)
  -- where more is asked for, some more bytes complete a text
  pub more : (bytes : List ℕ) → read bytes ≡ Err More → (x : X) × (rest : List ℕ) × lawful x × (bytes ++ rest ≡ text x)
  -- no further bytes mend what is no prefix of a text
  pub dead : (bytes more : List ℕ) → read bytes ≡ Err Dead → read (bytes ++ more) ≡ Err Dead
