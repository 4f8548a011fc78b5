-- What each way out of reading a line means for the bytes that weren't read before.
use Rattle.std.proofs.Common.{◌≡◌, ℕ, ◌+◌, ◌-◌, ◌<◌, ◌≤◌, inl, inr, List, [], ◌++◌, length, length-append, take, refl, ap, sym, ◌∙◌, append_assoc, append-nil, Ok, Err, Some, None, IfSome, arith}
use Rattle.std.proofs.lemmas.List.{take_at}
use Rattle.std.proofs.Math.Seq.{take-append-add}
use Rattle.std.specs.Io.KnownBytes.{Consumes, IsAtEnd, Keeps, prepend_known}
use Rattle.std.specs.declared.option.Option.{Option}
use Rattle.std.specs.declared.result.Result.{Result}
use Rattle.firefly_outside.specs.Causes.{Rose}
use Rattle.exact_text.specs.declared.stop.Stop.{Stop}
use Rattle.exact_text.specs.declared.stop.Stop.TheVariants.{More, Dead}
use Rattle.exact_text.specs.declared.intake.Intake.{Intake}
use Rattle.exact_text.specs.declared.fault.TextFault.{TextFault}
use Rattle.exact_text.specs.declared.fault.TextFault.TheVariants.{Memory, BadLine, TooLong, Read}
use Rattle.exact_text.specs.Codes.{IsCode}
use Rattle.exact_text.specs.Exact.{IsStuck}
use Rattle.exact_text.specs.Intake.{IsFilled, room_of}

pub take_more_than : (n : ℕ) (w ys : List ℕ) → length w ≤ n → take n (w ++ ys) ≡ w ++ take (n - length w) ys
take_more_than n w ys le = let e : n ≡ length w + (n - length w) = omega arith in ap (λ m. take m (w ++ ys)) e ∙ take-append-add w ys (n - length w)

pub take_after : (text xs ys : List ℕ) (room room' : ℕ) → xs ≡ text ++ ys → room' + length text ≡ room → take room xs ≡ text ++ take room' ys
take_after text xs ys room room' c same =
    let e : room ≡ length text + room' = omega arith in
    ap (λ n. take n xs) e ∙ ap (take (length text + room')) c ∙ take-append-add text ys room'

pub rose_since : (first before now : ℕ) → first ≤ before → Rose before now → Rose first now
rose_since first before now le rose = grind arith

pub Keeps-refl : (r : Option (List ℕ)) → Keeps r r
Keeps-refl None = tt
Keeps-refl (Some xs) = refl

pub Keeps-after : (r left left' : Option (List ℕ)) (w : List ℕ) → Keeps r (prepend_known w left) → Keeps left left' → Keeps r (prepend_known w left')
Keeps-after None left left' w k same = tt
Keeps-after (Some xs) None left' w k same = absurd k
Keeps-after (Some xs) (Some ys) None w k same = absurd same
Keeps-after (Some xs) (Some ys) (Some zs) w k same = ap (λ l. w ++ l) same ∙ k

-- the bytes held are those given since
pub kept_consumes : (r left left' : Option (List ℕ)) (w : List ℕ) → Keeps r (prepend_known w left) → Keeps left left' → Consumes r left' w
kept_consumes None left left' w k same = tt
kept_consumes (Some xs) None left' w k same = absurd k
kept_consumes (Some xs) (Some ys) None w k same = absurd same
kept_consumes (Some xs) (Some ys) (Some zs) w k same = sym k ∙ ap (λ l. w ++ l) (sym same)

pub kept_none : (r s : Option (List ℕ)) → Keeps r s → Consumes r s []
kept_none None s k = tt
kept_none (Some xs) None k = k
kept_none (Some xs) (Some ys) k = sym k

-- nothing was read
pub consumes_none : (r : Option (List ℕ)) (text : List ℕ) → text ≡ [] → Consumes r r text
consumes_none None text e = tt
consumes_none (Some xs) text e = ap (λ l. l ++ xs) (sym e)

pub Consumes-split : (a c : Option (List ℕ)) (xs ys : List ℕ) → Consumes a c (xs ++ ys) → (b : Option (List ℕ)) × Consumes a b xs × Consumes b c ys
Consumes-split None c xs ys h = (None, tt, tt)
Consumes-split (Some x) None xs ys h = absurd h
Consumes-split (Some x) (Some z) xs ys h = (Some (ys ++ z), h ∙ append_assoc xs ys z, refl)

-- a byte that is held is left
pub some_left : (r left : Option (List ℕ)) (w : List ℕ) → Keeps r (prepend_known w left) → 0 < length w → IfSome r (λ input. 0 < length input)
some_left None left w k some = tt
some_left (Some xs) None w k some = absurd k
some_left (Some xs) (Some ys) w k some = omega (arith, ap length k, length-append w ys)

-- where nothing is held, what is left is what the source gives
pub nothing_held : (w : List ℕ) (r : Option (List ℕ)) → w ≡ [] → prepend_known w r ≡ r
nothing_held w None e = refl
nothing_held w (Some xs) e = ap (λ l. Some (l ++ xs)) e

-- the end of the input is all that is left
pub nothing_left : (left left' : Option (List ℕ)) (w : List ℕ) → w ≡ [] → Keeps left left' → IsAtEnd left' → IfSome (prepend_known w left) (λ bytes. bytes ≡ [])
nothing_left None left' w e k end = tt
nothing_left (Some xs) None w e k end = absurd k
nothing_left (Some xs) (Some ys) w e k end = ap (λ l. l ++ xs) e ∙ sym k ∙ end

-- the text, and then all that was left
pub all_read : (r rest : Option (List ℕ)) (text tail whole : List ℕ) → Consumes r rest text → IfSome rest (λ bytes. bytes ≡ tail) → text ++ tail ≡ whole → IfSome r (λ bytes. bytes ≡ whole)
all_read None rest text tail whole c h e = tt
all_read (Some a) None text tail whole c h e = absurd c
all_read (Some a) (Some b) text tail whole c h e = c ∙ ap (λ l. text ++ l) h ∙ e

pub for_some : {P Q : List ℕ → Type 0} (r : Option (List ℕ)) → ((xs : List ℕ) → P xs → Q xs) → IfSome r P → IfSome r Q
for_some None f h = tt
for_some (Some xs) f h = f xs h

module _ {X : Type 0} {lawful : X → Type 0} {text : X → List ℕ} {read : List ℕ → Result (X × List ℕ) Stop} (code : IsCode lawful text read) where
  pub read_outcome : (r left : Option (List ℕ)) (w w' : List ℕ) (y : X) → Keeps r (prepend_known w left) → read w ≡ Ok (y, w') → lawful y × Consumes r (prepend_known w' left) (text y)
  read_outcome None left w w' y k e = let f = code.found w w' y e in (f.0, tt)
  read_outcome (Some xs) None w w' y k e = absurd k
  read_outcome (Some xs) (Some ys) w w' y k e =
      let f = code.found w w' y e in
      (f.0, sym k ∙ ap (λ l. l ++ ys) f.1 ∙ append_assoc (text y) w' ys)

  pub length_outcome : (w w' : List ℕ) (y : X) → read w ≡ Ok (y, w') → length w ≡ length (text y) + length w'
  length_outcome w w' y e = let f = code.found w w' y e in ap length f.1 ∙ length-append (text y) w'

  -- bytes to which more must come are shorter than any bound on the texts
  pub more_short : (most : ℕ) → ((x : X) → lawful x → length (text x) < most) → (w : List ℕ) → read w ≡ Err More → length w < most
  more_short most short w e = let m = code.more w e in omega (arith, short m.0 m.2, ap length m.3, length-append w m.1)

  dead_outcome : (r left : Option (List ℕ)) (w : List ℕ) (room : ℕ) → Keeps r (prepend_known w left) → length w ≤ room → read w ≡ Err Dead → IfSome r (λ input. read (take room input) ≡ Err Dead)
  dead_outcome None left w room k le e = tt
  dead_outcome (Some xs) None w room k le e = absurd k
  dead_outcome (Some xs) (Some ys) w room k le e =
      ap read (ap (take room) (sym k) ∙ take_more_than room w ys le) ∙ code.dead w (take (room - length w) ys) e

  cut_outcome : (r left : Option (List ℕ)) (w : List ℕ) (room : ℕ) → Keeps r (prepend_known w left) → IsAtEnd left → length w ≤ room → read w ≡ Err More → IfSome r (λ input. (length input ≤ room) × (read input ≡ Err More))
  cut_outcome None left w room k end le e = tt
  cut_outcome (Some xs) None w room k end le e = absurd k
  cut_outcome (Some xs) (Some ys) w room k end le e =
      let all : w ≡ xs = sym (append-nil w) ∙ ap (λ l. w ++ l) (sym end) ∙ k in
      (omega (arith, ap length all), ap read (sym all) ∙ e)

  long_outcome : (r left left' : Option (List ℕ)) (w piece : List ℕ) (room : ℕ) → Keeps r (prepend_known w left) → Consumes left left' piece → 0 < length piece → length w ≡ room → read w ≡ Err More
      → IfSome r (λ input. (room < length input) × (read (take room input) ≡ Err More))
  long_outcome None left left' w piece room k c some le e = tt
  long_outcome (Some xs) None left' w piece room k c some le e = absurd k
  long_outcome (Some xs) (Some ys) None w piece room k c some le e = absurd c
  long_outcome (Some xs) (Some ys) (Some zs) w piece room k c some le e =
      (omega (arith, ap length k, length-append w ys, ap length c, length-append piece zs), ap read (ap (take room) (sym k) ∙ take_at w ys room le) ∙ e)

  -- the bytes held are no prefix of a line
  pub stuck_dead : (r left : Option (List ℕ)) (w : List ℕ) (lines room k : ℕ) → k ≡ lines + 1 → Keeps r (prepend_known w left) → length w ≤ room → read w ≡ Err Dead
      → IsStuck read lines room r left 0 0 (BadLine k)
  stuck_dead r left w lines room k one keeps le e = (one, for_some r (λ input d. inl d) (dead_outcome r left w room keeps le e))

  -- they are only a prefix, and the input has ended
  pub stuck_cut : (r left : Option (List ℕ)) (w : List ℕ) (lines room k : ℕ) → k ≡ lines + 1 → Keeps r (prepend_known w left) → IsAtEnd left → length w ≤ room → read w ≡ Err More
      → IsStuck read lines room r left 0 0 (BadLine k)
  stuck_cut r left w lines room k one keeps end le e = (one, for_some r (λ input d. inr d) (cut_outcome r left w room keeps end le e))

  -- a fault of one more piece
  pub stuck_fault : (old new : Intake) (r left left' : Option (List ℕ)) (lines room first before now : ℕ) (fault : TextFault)
      → IsFilled old new left left' before now (Err fault) → Keeps r (prepend_known old.window left) → room_of old ≡ room → first ≤ before → read old.window ≡ Err More
      → IsStuck read lines room r left' first now fault
  stuck_fault old new r left left' lines room first before now Memory f k same le e = absurd f
  stuck_fault old new r left left' lines room first before now (BadLine k') f k same le e = absurd f
  stuck_fault old new r left left' lines room first before now TooLong f k same le e = long_outcome r left left' old.window f.1.0 room k f.1.1 f.1.2 (omega (arith, f.0)) e
  stuck_fault old new r left left' lines room first before now Read f k same le e =
      (rose_since first before now le f.0, (old.window, kept_consumes r left left' old.window k f.1, e, omega (arith, same)))
