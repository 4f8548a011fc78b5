-- Why a text wasn't read, seen from before what was read of it.
use Rattle.std.proofs.Common.{◌≡◌, ℕ, zero, suc, ◌+◌, ◌-◌, ◌<◌, ◌≤◌, ◌⊎◌, inl, inr, List, [], ◌∷◌, ◌++◌, length, length-append, length-take, take, refl, ap, sym, subst, ◌∙◌, append_assoc, append-nil, Ok, Err, Some, None, IfSome, true, arith}
use Rattle.std.proofs.lemmas.Bool.Decides.{eqb_tells}
use Rattle.std.proofs.lemmas.List.{take_at}
use Rattle.std.proofs.KnownBytes.{Consumes-trans}
use Rattle.std.proofs.Math.Seq.{take-append-add}
use Rattle.std.specs.Io.KnownBytes.{Consumes}
use Rattle.std.specs.declared.option.Option.{Option}
use Rattle.std.specs.declared.result.Result.{Result}
use Rattle.exact_text.specs.declared.stop.Stop.{Stop}
use Rattle.exact_text.specs.declared.stop.Stop.TheVariants.{More, Dead}
use Rattle.exact_text.specs.declared.intake.Intake.{Intake}
use Rattle.exact_text.specs.declared.fault.TextFault.{TextFault}
use Rattle.exact_text.specs.declared.fault.TextFault.TheVariants.{Memory, BadLine, TooLong, Read}
use Rattle.exact_text.specs.Codes.{IsCode}
use Rattle.exact_text.specs.Prefixes.{Begins, first_lines, newlines, IsBrokenAt, IsCutShortAt, IsBadLine, IsLine}
use Rattle.exact_text.specs.Exact.{HasReason, IsShown, IsStuck, IsTooLong, OrMemory, bytes_room, lines_room}
use Rattle.exact_text.specs.Intake.{IsAsked, rest_of, room_of}
use Rattle.exact_text.specs.Unfolds.{Unfolds}
use Rattle.exact_text.proofs.Grammar.{first_lines-zero, first_lines-line, no_newline, prefix, broken, cut_short, empty_prefix}
use Rattle.exact_text.proofs.Reaches.{Reaches, reach_here, reach_line, broken_some, cut_some}
use Rattle.exact_text.proofs.Shown.{lines_begin, shown_is_bad}
use Rattle.exact_text.proofs.Stuck.{for_some, more_short, rose_since, some_left, kept_consumes, kept_none, Keeps-refl}

-- a reader that takes memory
pub or_memory : (Reason : TextFault → Type 0) (f : TextFault) → Reason f → OrMemory Reason f
or_memory Reason Memory h = tt
or_memory Reason (BadLine k) h = h
or_memory Reason TooLong h = h
or_memory Reason Read h = h

pub or_map : (Reason Other : TextFault → Type 0) → ((f : TextFault) → Reason f → Other f) → (f : TextFault) → OrMemory Reason f → OrMemory Other f
or_map Reason Other m Memory h = tt
or_map Reason Other m (BadLine k) h = m (BadLine k) h
or_map Reason Other m TooLong h = m TooLong h
or_map Reason Other m Read h = m Read h

-- How much may be read of a text and the rest after it, by what may be read of the rest.
pub record IsRoomBefore (text : List ℕ) (room room' : List ℕ → ℕ) : Type 0 where
  pub is : (rest : List ℕ) → room (text ++ rest) ≡ length text + room' rest

pub bytes_before : (text : List ℕ) (room room' : ℕ) → room' + length text ≡ room → IsRoomBefore text (bytes_room room) (bytes_room room')
bytes_before text room room' e = record { is = λ rest. omega (arith, e) }

pub line_before : (line : List ℕ) → IsLine line → (most m : ℕ) → most ≡ m + 1 → IsRoomBefore line (lines_room most) (lines_room m)
line_before line is most m e =
    let next : most ≡ suc m = omega (arith, e) in
    record { is = λ rest. ap length (ap (λ k. first_lines k (line ++ rest)) next ∙ first_lines-line line rest m is) ∙ length-append line (first_lines m rest) }

pub room_then : (a b : List ℕ) {room room1 room' : List ℕ → ℕ} → IsRoomBefore a room room1 → IsRoomBefore b room1 room' → IsRoomBefore (a ++ b) room room'
room_then a b {room} p q = record { is = λ rest. omega (arith, ap room (append_assoc a b rest), p.is (b ++ rest), q.is rest, length-append a b) }

module _ {T S : List ℕ → Type 0} {room room' : List ℕ → ℕ} {n : ℕ} (text : List ℕ) (fits : IsRoomBefore text room room') (reach : (rest : List ℕ) → Reaches T (text ++ rest) S rest n) where
  may_be_read : (rest : List ℕ) → take (room (text ++ rest)) (text ++ rest) ≡ text ++ take (room' rest) rest
  may_be_read rest = ap (λ m. take m (text ++ rest)) (fits.is rest) ∙ take-append-add text rest (room' rest)

  shown_after : (rest : List ℕ) (j k : ℕ) → j + n ≡ k → IsShown S (room' rest) rest j → IsShown T (room (text ++ rest)) (text ++ rest) k
  shown_after rest j k e (inl b) =
      inl (subst (λ l. IsBrokenAt T l k) (sym (may_be_read rest)) (subst (IsBrokenAt T (text ++ take (room' rest) rest)) e ((reach (take (room' rest) rest)).broken j b)))
  shown_after rest j k e (inr c) = inr (omega (arith, c.0, fits.is rest, length-append text rest), subst (IsCutShortAt T (text ++ rest)) e ((reach rest).cut j c.1))

  -- a reason after a text is one of the whole
  pub reason_after : (r r' left' : Option (List ℕ)) (lines lines' first before now : ℕ) (fault : TextFault) → Consumes r r' text → lines' ≡ lines + n → first ≤ before
      → HasReason S room' lines' r' left' before now fault → HasReason T room lines r left' first now fault
  reason_after r r' left' lines lines' first before now Memory c e le h = h
  reason_after None r' left' lines lines' first before now (BadLine k) c e le h = (omega (arith, h.0, e), tt)
  reason_after (Some xs) None left' lines lines' first before now (BadLine k) c e le h = absurd c
  reason_after (Some xs) (Some ys) left' lines lines' first before now (BadLine k) c e le h =
      (omega (arith, h.0, e), subst (λ l. IsShown T (room l) l (k - lines)) (sym c) (shown_after ys (k - lines') (k - lines) (omega (arith, h.0, e)) h.1))
  reason_after None r' left' lines lines' first before now TooLong c e le h = tt
  reason_after (Some xs) None left' lines lines' first before now TooLong c e le h = absurd c
  reason_after (Some xs) (Some ys) left' lines lines' first before now TooLong c e le h =
      subst (λ l. IsTooLong T (room l) l) (sym c) (omega (arith, h.0, fits.is ys, length-append text ys), subst (Begins T) (sym (may_be_read ys)) ((reach (take (room' ys) ys)).prefix h.1))
  reason_after r r' left' lines lines' first before now Read c e le h =
      let given = h.1.0 in
      (rose_since first before now le h.0, (text ++ given, Consumes-trans r r' left' text given c h.1.1, (reach given).prefix h.1.2, omega (arith, h.1.3, fits.is given, length-append text given)))

-- what may be read of an input is its first lines
front : (m : ℕ) (bytes : List ℕ) → take (lines_room m bytes) bytes ≡ first_lines m bytes
front m bytes =
    let l = lines_begin m bytes in
    ap (take (lines_room m bytes)) l.1 ∙ take_at (first_lines m bytes) l.0 (lines_room m bytes) refl

-- the first line of the first lines
first_of_first : (m : ℕ) (bytes : List ℕ) → first_lines 1 (first_lines (suc m) bytes) ≡ first_lines 1 bytes
first_of_first m [] = refl
first_of_first m (c ∷ bytes) =
    elim (eqb_tells c 10) [
      | inl p ↦ rw p.0 (ap (λ l. c ∷ l) (first_lines-zero (first_lines m bytes) ∙ sym (first_lines-zero bytes)))
      | inr p ↦ rw p.0 (ap (λ l. c ∷ l) (first_of_first m bytes))
    ]

-- bytes without a newline are within their first line
open_line : (bytes : List ℕ) (m : ℕ) → 0 < m → 1 ≡ newlines bytes + 1 → length bytes ≤ lines_room m bytes
open_line bytes zero pos last = absurd (omega arith)
open_line bytes (suc m) pos last = let none : newlines bytes ≡ 0 = omega (arith, last) in omega (arith, ap length (no_newline bytes m none))

-- a bad first line shows within the first lines
first_shown : (T : List ℕ → Type 0) (m : ℕ) (input : List ℕ) → 0 < m → IsBadLine T input 1 → IsShown T (lines_room m input) input 1
first_shown T zero input pos b = absurd (omega arith)
first_shown T (suc m) input pos (inl b) =
    inl (subst (λ l. IsBrokenAt T l 1) (sym (front (suc m) input)) (record {
      counted = b.counted;
      before = subst (Begins T) (first_lines-zero input ∙ sym (first_lines-zero (first_lines (suc m) input))) b.before;
      broken = λ t. b.broken (subst (Begins T) (first_of_first m input) t);
    }))
first_shown T m input pos (inr c) = inr (open_line input m pos c.last, c)

module _ {X : Type 0} {Text : List ℕ → Type 0} {lawful : X → Type 0} {text : X → List ℕ} {Next : X → List ℕ → Type 0} {read : List ℕ → Result (X × List ℕ) Stop} (grammar : Unfolds Text lawful text Next) (code : IsCode lawful text read) where
  first_bad : (room : ℕ) (input : List ℕ) → (read (take room input) ≡ Err Dead) ⊎ ((length input ≤ room) × (read input ≡ Err More)) → IsShown Text room input 1
  first_bad room input (inl e) = inl (subst (λ l. IsBrokenAt Text l 1) (append-nil (take room input)) (broken grammar code (take room input) [] e))
  first_bad room input (inr c) = inr (c.0, cut_short grammar code input c.1)

  stuck_reason : (within : List ℕ → ℕ) (r left' : Option (List ℕ)) (lines room before now : ℕ) (fault : TextFault) → ((input : List ℕ) → IsShown Text room input 1 → IsShown Text (within input) input 1)
      → ((input : List ℕ) → room < length input → read (take room input) ≡ Err More → IsTooLong Text (within input) input) → ((given : List ℕ) → length given ≤ room → read given ≡ Err More → length given ≤ within given)
      → IsStuck read lines room r left' before now fault → HasReason Text within lines r left' before now fault
  stuck_reason within r left' lines room before now Memory shown long given h = h
  stuck_reason within r left' lines room before now (BadLine k) shown long given h =
      let one : 1 ≡ k - lines = omega (arith, h.0) in
      (omega (arith, h.0), for_some r (λ input e. subst (IsShown Text (within input) input) one (shown input (first_bad room input e))) h.1)
  stuck_reason within r left' lines room before now TooLong shown long given h = for_some r (λ input e. long input e.0 e.1) h
  stuck_reason within r left' lines room before now Read shown long given h = (h.0, (h.1.0, h.1.1, prefix grammar code h.1.0 h.1.2, given h.1.0 h.1.3 h.1.2))

  -- why its first line wasn't read is why a text wasn't read
  pub text_reason : (r left' : Option (List ℕ)) (lines room before now : ℕ) (fault : TextFault) → IsStuck read lines room r left' before now fault → HasReason Text (bytes_room room) lines r left' before now fault
  text_reason r left' lines room before now fault h =
      stuck_reason (bytes_room room) r left' lines room before now fault (λ input s. s) (λ input lt e. (lt, prefix grammar code (take room input) e)) (λ given le e. le) h

  -- the same of a text of which so many lines may be read, where a line of any length has room
  pub line_reason : (r left' : Option (List ℕ)) (m lines room before now : ℕ) (fault : TextFault) → 0 < m → 65536 ≤ room → ((x : X) → lawful x → length (text x) < 65536)
      → IsStuck read lines room r left' before now fault → HasReason Text (lines_room m) lines r left' before now fault
  line_reason r left' m lines room before now fault pos wide short h =
      stuck_reason (lines_room m) r left' lines room before now fault (λ input s. first_shown Text m input pos (shown_is_bad Text room input 1 s))
      (λ input lt e. absurd (omega (arith, more_short code 65536 short (take room input) e, length-take room input, lt, wide))) (λ given le e. open_line given m pos (cut_short grammar code given e).last) h

-- Nothing is held, and the source doesn't give a byte.
pub asked_reason : {T : List ℕ → Type 0} {room : List ℕ → ℕ} → Begins T [] → (old new : Intake) → (room_of old ≡ 0 → (input : List ℕ) → room input ≡ 0) → (left left' : Option (List ℕ)) (lines before now : ℕ) (fault : TextFault)
    → IsAsked old new left left' before now (Err fault) → HasReason T room lines (rest_of old left) left' before now fault
asked_reason none old new full left left' lines before now Memory h = absurd h.1
asked_reason none old new full left left' lines before now (BadLine k) h = absurd h.1
asked_reason none old new full None left' lines before now TooLong h = tt
asked_reason none old new full (Some xs) None lines before now TooLong h = absurd h.1.1.1
asked_reason {T} {room} none old new full (Some xs) (Some ys) lines before now TooLong h =
    let input = old.window ++ xs in
    let empty : room input ≡ 0 = full (omega (arith, h.1.0, ap length h.0)) input in
    (omega (arith, empty, ap length h.1.1.1, length-append h.1.1.0 ys, h.1.1.2, length-append old.window xs), subst (λ n. Begins T (take n input)) (sym empty) none)
asked_reason {T} none old new full left left' lines before now Read h =
    (h.1.0, (old.window, kept_consumes (rest_of old left) left left' old.window (Keeps-refl (rest_of old left)) h.1.1, subst (Begins T) (sym h.0) none, omega (arith, ap length h.0)))

-- There are as many lines as may be read, and a byte that is left.
pub full_reason : {T : List ℕ → Type 0} → Begins T [] → (r left' : Option (List ℕ)) (m lines before now : ℕ) → m ≡ 0 → IfSome r (λ input. 0 < length input) → HasReason T (lines_room m) lines r left' before now TooLong
full_reason none None left' m lines before now e more = tt
full_reason {T} none (Some input) left' m lines before now e more =
    let empty : first_lines m input ≡ [] = ap (λ k. first_lines k input) e ∙ first_lines-zero input in
    (omega (arith, ap length empty, more), subst (Begins T) (sym (front m input ∙ empty)) none)

-- The input has ended, and the text hasn't.
pub ended_reason : {T : List ℕ → Type 0} → Begins T [] → (T [] → ⊥) → (room : List ℕ → ℕ) (r left' : Option (List ℕ)) (lines before now k : ℕ) → k ≡ lines + 1 → IfSome r (λ input. input ≡ []) → HasReason T room lines r left' before now (BadLine k)
ended_reason none more room None left' lines before now k one h = (omega (arith, one), tt)
ended_reason {T} none more room (Some input) left' lines before now k one h =
    let last : k - lines ≡ newlines [] + 1 = omega (arith, one) in
    (omega (arith, one), inr (omega (arith, ap length h), subst (λ l. IsCutShortAt T l (k - lines)) (sym h) (record { prefix = none; no_text = more; last = last })))

-- The texts of T are those of S, and maybe nothing.
module _ {S T : List ℕ → Type 0} (some : (bytes : List ℕ) → T bytes → (bytes ≡ []) ⊎ S bytes) (back : (bytes : List ℕ) → S bytes → T bytes) where
  -- what is a reason after a line is one of the whole
  pub reason_line : {X : Type 0} {lawful : X → Type 0} {text : X → List ℕ} {Next : X → List ℕ → Type 0} {read : List ℕ → Result (X × List ℕ) Stop} → Unfolds S lawful text Next → IsCode lawful text read
      → (x : X) → lawful x → (room room' : List ℕ → ℕ) → IsRoomBefore (text x) room room' → (r r' left' : Option (List ℕ)) (lines lines' first before now : ℕ) (fault : TextFault) → Consumes r r' (text x) → lines' ≡ lines + 1 → first ≤ before
      → HasReason (Next x) room' lines' r' left' before now fault → HasReason T room lines r left' first now fault
  reason_line {text = text} grammar code x l room room' fits r r' left' lines lines' first before now fault c e le h =
      reason_after (text x) fits (λ rest. reach_line some back grammar code x l rest) r r' left' lines lines' first before now fault c e le h

  module _ (empty : Begins S []) where
    shown_some : (input : List ℕ) (room k : ℕ) → 0 < length input → IsShown S room input k → IsShown T room input k
    shown_some input room k more (inl b) = inl (broken_some some back empty (take room input) k b)
    shown_some input room k more (inr c) = inr (c.0, cut_some some back input k more c.1)

    some_reason : (room : List ℕ → ℕ) (lines : ℕ) (r left' : Option (List ℕ)) (before now : ℕ) (fault : TextFault) → IfSome r (λ input. 0 < length input)
        → HasReason S room lines r left' before now fault → HasReason T room lines r left' before now fault
    some_reason room lines r left' before now Memory more h = h
    some_reason room lines None left' before now (BadLine k) more h = h
    some_reason room lines (Some xs) left' before now (BadLine k) more h = (h.0, shown_some xs (room xs) (k - lines) more h.1)
    some_reason room lines r left' before now TooLong more h = for_some r (λ input l. (l.0, (l.1.0, back _ l.1.1))) h
    some_reason room lines r left' before now Read more h = (h.0, (h.1.0, h.1.1, (h.1.2.0, back _ h.1.2.1), h.1.3))

    -- A byte is left: what is a reason for the texts that aren't empty is one for all, seen from before it was asked.
    pub left_reason : (room room' : List ℕ → ℕ) → IsRoomBefore [] room room' → (old new : Intake) (left left1 left' : Option (List ℕ)) (first before now : ℕ) (fault : TextFault) → IsAsked old new left left1 first before (Ok true) → first ≤ before
        → HasReason S room' new.lines (rest_of new left1) left' before now fault → HasReason T room old.lines (rest_of old left) left' first now fault
    left_reason room room' fits old new left left1 left' first before now fault a le h =
        let r = rest_of new left1 in
        reason_after [] fits (reach_here T) (rest_of old left) r left' old.lines new.lines first before now fault (kept_none (rest_of old left) r a.2) (omega (arith, a.0.1)) le
        (some_reason room' new.lines r left' before now fault (some_left r left1 new.window (Keeps-refl r) a.3) h)

  -- A byte is left, and the next line wasn't read.
  pub line_left : {X : Type 0} {lawful : X → Type 0} {text : X → List ℕ} {Next : X → List ℕ → Type 0} {read : List ℕ → Result (X × List ℕ) Stop} → Unfolds S lawful text Next → IsCode lawful text read → ((x : X) → lawful x → length (text x) < 65536)
      → (old new : Intake) (left left1 left' : Option (List ℕ)) (m first before now : ℕ) (fault : TextFault) → IsAsked old new left left1 first before (Ok true) → first ≤ before → 0 < m → 65536 ≤ room_of old
      → IsStuck read new.lines (room_of new) (rest_of new left1) left' before now fault → HasReason T (lines_room m) old.lines (rest_of old left) left' first now fault
  line_left grammar code short old new left left1 left' m first before now fault a le pos wide h =
      left_reason (empty_prefix grammar code) (lines_room m) (lines_room m) (record { is = λ rest. omega arith }) old new left left1 left' first before now fault a le
      (line_reason grammar code (rest_of new left1) left' m new.lines (room_of new) before now fault pos (omega (arith, a.1, wide)) short h)
