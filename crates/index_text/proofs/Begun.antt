-- Paths that are read piece by piece.
use Rattle.std.proofs.Common.{◌≡◌, ℕ, ◌+◌, ◌-◌, ◌<◌, ◌≤◌, List, [], ◌∷◌, ◌++◌, length, take, drop, arith, refl, sym, ap, subst, ◌∙◌, length-append, append_assoc, append-nil, Result, Ok, Err, Option, Some, None, IfSome, true, false}
use Rattle.std.specs.Prelude.{codes}
use Rattle.std.specs.List.{AllByRecursion}
use Rattle.std.specs.Str.{IsUtf8}
use Rattle.std.specs.Io.KnownBytes.{Keeps, prepend_known}
use Rattle.std.proofs.KnownBytes.{Keeps-trans}
use Rattle.std.proofs.lemmas.Str.{IsUtf8-append, IsUtf8-drop, IsUtf8-nil, IsCharBoundary-from_take}
use Rattle.std.proofs.lemmas.List.{take_all, take_at, drop_at, take-append-drop, take-append-le, drop-append-le, length-take-le, length-drop}
use Rattle.std.proofs.lemmas.Grind.{flat_map-append}
use Rattle.std.proofs.Math.Seq.{drop-append_seam, take-add}
use Rattle.exact_text.specs.declared.intake.Intake.{Intake}
use Rattle.exact_text.specs.declared.stop.Stop as exact
use Rattle.exact_text.specs.declared.stop.Stop.TheVariants as stops
use Rattle.exact_text.specs.declared.fault.TextFault.{TextFault}
use Rattle.exact_text.specs.declared.fault.TextFault.TheVariants as fault
use Rattle.exact_text.specs.Codes.{IsCode}
use Rattle.exact_text.specs.Exact.{IsStuck, OrMemory}
use Rattle.exact_text.specs.Intake.{rest_of, room_of}
use Rattle.exact_text.specs.Reading.{word_at}
use Rattle.exact_text.proofs.CodeLaws.{ok_injective}
use Rattle.exact_text.proofs.Stuck.{rose_since}
use Rattle.exact_text.proofs.Words.{word_at-found}
use Rattle.text_output.specs.Paths.{escaped, escaped_byte, newline}
use Rattle.index_text.specs.declared.fault.Stop.TheVariants.{More}
use Rattle.index_text.specs.Texts.{IsAbove, IsHit}
use Rattle.index_text.specs.Lines.{skipped, word, key_at, hit_from, hit_prefix_at, hit_at, skipped_at, heading_at, path_at, path_of, is_prefix, is_no_newline}
use Rattle.index_text.specs.Next.{IsLast, IsLastPath, IsNext, GoesOn, TakesLine}
use Rattle.index_text.specs.Steps.{IsPassed}
use Rattle.index_text.specs.Long.{IsLeft, Settles, IsWaiting, IsCut, IsCounted, Awaits, AsksMore}
use Rattle.index_text.proofs.Escaping.{escaped_back}
use Rattle.index_text.proofs.LineCodes.{word_text, prefix_text, hit_prefix_code, line_text, hit_code, skipped_code, heading_code}
use Rattle.index_text.proofs.Orders.{below_prefix, prefix_rest}
use Rattle.index_text.specs.Numerals.{numeral_at}
use Rattle.index_text.proofs.Numerals.{Digits, numeral_code, numeral_goes}
use Rattle.index_text.proofs.WordCode.{key_code}
use Rattle.index_text.proofs.PathCode.{above_grown, path_code, path_text}
use Rattle.index_text.proofs.Stopping.{line_stuck}

-- what is left of the last path
pub left_is : (t text left : List ℕ) → true ≡ is_prefix t text → length t < length text → left ≡ drop (length t) text → (text ≡ t ++ left) × (0 < length left)
left_is t text left p less is =
    let r = prefix_rest t text (sym p) in
    let size : length text ≡ length t + length r.0 = ap length r.1 ∙ length-append t r.0 in
    let same : left ≡ r.0 = is ∙ ap (drop (length t)) r.1 ∙ drop-append_seam t r.0 in
    (r.1 ∙ ap (λ l. t ++ l) (sym same), subst (λ (l : List ℕ). 0 < length l) (sym same) (omega (arith, size, less)))

pub settles : (last left : Option (List ℕ)) (bytes out : List ℕ) (n : ℕ) → length bytes ≤ n → IsPassed is_no_newline bytes n → path_of bytes ≡ Some out → IsUtf8 out → IsLeft last out left → Settles last bytes left
settles last left bytes out n all flat path text is =
    (out, sym (escaped_back false bytes out path (subst (AllByRecursion (λ b. is_no_newline b ≡ true)) (take_all n bytes all) flat)), text, is)

pub settles_nothing : (last : Option (List ℕ)) → IsLastPath last → (bytes : List ℕ) → Settles last (take 0 bytes) last
settles_nothing None ok bytes = ([], refl, IsUtf8-nil, tt)
settles_nothing (Some l) ok bytes = ([], refl, IsUtf8-nil, (refl, ok.some))

utf8_rest : (t l : List ℕ) → IsUtf8 t → IsUtf8 (t ++ l) → IsUtf8 l
utf8_rest t l u w =
    let seam = IsCharBoundary-from_take (t ++ l) (length t) w (omega (arith, length-append t l)) (subst IsUtf8 (sym (take_at t l (length t) refl)) u) in
    subst IsUtf8 (drop_at t l (length t) refl) (IsUtf8-drop (t ++ l) (length t) w seam)

-- what is left of the last path is a path
pub left_ok : (last left : Option (List ℕ)) (w : List ℕ) → IsLastPath last → Settles last w left → IsLastPath left
left_ok last None w ok s = tt
left_ok None (Some l) w ok (t, e, u, is) = let no = is.0 in absurd (cc)
left_ok (Some k) (Some l) w ok (t, e, u, is) =
    let h = is.0 in
    let same : k ≡ t ++ l = cc in
    record { some = is.1; text = utf8_rest t l u (subst IsUtf8 same ok.text) }

-- more bytes than none complete what asks for more
more_some : {X : Type 0} {lawful : X → Type 0} {text : X → List ℕ} {read : List ℕ → Result (X × List ℕ) exact.Stop} → IsCode lawful text read
    → (bytes : List ℕ) → read bytes ≡ Err stops.More → (x : X) → lawful x → (more : List ℕ) → bytes ++ more ≡ text x → 0 < length more
more_some {X} {lawful} {text} {read} code bytes e x l [] same =
    let found = code.again x [] l in
    let all : text x ++ [] ≡ bytes = append-nil (text x) ∙ sym same ∙ append-nil bytes in
    let no = sym found ∙ ap read all ∙ e in
    absurd (cc)
more_some code bytes e x l (b ∷ more) same = omega arith

-- after these bytes of a path the rest of it is above left
abbrev pub Opens : Option (List ℕ) → List ℕ → Option (List ℕ) → Type 0
Opens last q left = (y : List ℕ) → IsNext left y → IsNext last (q ++ y)

settled_opens : (last left : Option (List ℕ)) (w : List ℕ) (s : Settles last w left) → Opens last s.0 left
settled_opens last None w (t, e, u, above) y n =
    (record { some = omega (arith, n.0.some, length-append t y); text = IsUtf8-append t y u n.0.text }, above_grown last t y above)
settled_opens last (Some l) w (t, e, u, is) y n =
    (record { some = omega (arith, n.0.some, length-append t y); text = IsUtf8-append t y u n.0.text }, subst (λ o. IsAbove o (t ++ y)) (sym is.0) (below_prefix t l y n.1))

escaped_append : (q t : List ℕ) → escaped (q ++ t) ≡ escaped q ++ escaped t
escaped_append q t = flat_map-append escaped_byte q t

-- the first bytes are the head and bytes of a path, whose rest has to be above left
abbrev pub IsRead : Option (List ℕ) → List ℕ → ℕ → Option (List ℕ) → List ℕ → Type 0
IsRead last head at left window = (q : List ℕ) × (take at window ≡ head ++ escaped q) × Opens last q left

pub read_none : (last : Option (List ℕ)) (start : ℕ) (window : List ℕ) → IsRead last (take start window) start last window
read_none last start window = ([], sym (append-nil (take start window)), λ y n. n)

module _ (last : Option (List ℕ)) (head : List ℕ) (at : ℕ) (left : Option (List ℕ)) (window : List ℕ) (r : IsRead last head at left window) where
  pub read_more : (left' : Option (List ℕ)) (n : ℕ) → at ≤ n → Settles left (take (n - at) (drop at window)) left' → IsRead last head n left' window
  read_more left' n le s =
      let sum : n ≡ at + (n - at) = omega (arith, le) in (
        r.0 ++ s.0,
        ap (λ m. take m window) sum ∙ take-add at (n - at) window ∙ (λ i. r.1 i ++ s.1 i) ∙ append_assoc head (escaped r.0) (escaped s.0) ∙ ap (λ l. head ++ l) (sym (escaped_append r.0 s.0)),
        λ y next. subst (IsNext last) (sym (append_assoc r.0 s.0 y)) (r.2 (s.0 ++ y) (settled_opens left left' (take (n - at) (drop at window)) s y next)),
      )

  pub read_cut : IsLastPath left → path_at left (drop at window) ≡ Err stops.More → IsCut last head window
  read_cut ok e =
      let code = path_code left ok in
      let m = code.more (drop at window) e in
      let y = m.0 in
      (r.0 ++ y, m.1, r.2 y m.2, more_some code (drop at window) e y m.2 m.1 m.3, whole m.1 y m.3)
    where
      whole : (rest y : List ℕ) → drop at window ++ rest ≡ path_text y → window ++ rest ≡ head ++ (escaped (r.0 ++ y) ++ newline)
      whole rest y same =
          ap (λ l. l ++ rest) (sym (take-append-drop at window)) ∙ append_assoc (take at window) (drop at window) rest ∙ (λ i. r.1 i ++ same i)
          ∙ append_assoc head (escaped r.0) (escaped y ++ newline)
          ∙ ap (λ l. head ++ l) (sym (append_assoc (escaped r.0) (escaped y) newline) ∙ ap (λ l. l ++ newline) (sym (escaped_append r.0 y)))

  pub read_held : (new : List ℕ) → take at new ≡ take at window → IsRead last head at left new
  read_held new same = (r.0, same ∙ r.1, r.2)

-- the first bytes stay where more come
pub held : (mid new : Intake) (left there : Option (List ℕ)) (since later : ℕ) (at : ℕ) → at ≤ length mid.window → GoesOn More mid new left there since later (Ok tt) → IfSome left (λ _. take at new.window ≡ take at mid.window)
held mid new None there since later at h g = tt
held mid new (Some xs) None since later at h g = absurd g.1.3
held mid new (Some xs) (Some ys) since later at h g =
    let more : at ≤ length new.window = omega (arith, h, g.1.1, g.1.2, g.1.0.0, mid.within, new.within) in
    sym (take-append-le at new.window ys more) ∙ ap (take at) g.1.3 ∙ take-append-le at mid.window xs h

-- what only begins the text of a line asks for more
pub begun : {X : Type 0} {lawful : X → Type 0} {text : X → List ℕ} {read : List ℕ → Result (X × List ℕ) exact.Stop} → IsCode lawful text read
    → (x : X) → lawful x → (bytes more : List ℕ) → 0 < length more → bytes ++ more ≡ text x → read bytes ≡ Err stops.More
begun {X} {lawful} {text} {read} code x l bytes more some e = by (read bytes) refl
  where
    done : read (bytes ++ more) ≡ Ok (x, [])
    done = ap read (e ∙ sym (append-nil (text x))) ∙ code.again x [] l

    by : (o : Result (X × List ℕ) exact.Stop) → read bytes ≡ o → read bytes ≡ Err stops.More
    by (Ok (y, rest)) is =
        let f = code.found bytes rest y is in
        let again = code.again y (rest ++ more) f.0 in
        let same : text y ++ (rest ++ more) ≡ bytes ++ more = sym (append_assoc (text y) rest more) ∙ ap (λ l. l ++ more) (sym f.1) in
        let both = sym again ∙ ap read same ∙ done in
        let none : rest ++ more ≡ [] = ap (λ (p : X × List ℕ). p.1) (ok_injective both) in
        absurd (omega (arith, ap length none, length-append rest more, some))
    by (Err stops.More) is = is
    by (Err stops.Dead) is = let no = sym done ∙ code.dead bytes more is in absurd (cc)

pub waits_then : {a b c : Intake} {l m n : Option (List ℕ)} {f g h : ℕ} → IsWaiting a b l m f g → IsWaiting b c m n g h → IsWaiting a c l n f h
waits_then {a} {b} {c} {l} {m} {n} v w = record {
  lines = w.lines ∙ v.lines;
  room = w.room ∙ v.room;
  rest = Keeps-trans (rest_of a l) (rest_of b m) (rest_of c n) v.rest w.rest;
  unfailed = w.unfailed ∙ v.unfailed;
  given = omega (arith, v.given, w.given);
  budget = w.budget ∙ v.budget;
}

mapped : {P Q : List ℕ → Type 0} (there : Option (List ℕ)) (window : List ℕ) → ((b : List ℕ) → P b → Q b) → IfSome there (λ _. P window) → IfSome there (λ _. Q window)
mapped None window f h = tt
mapped (Some xs) window f h = f window h

pub awaits_map : {P Q : List ℕ → Type 0} → ((b : List ℕ) → P b → Q b) → (old new : Intake) (left left' : Option (List ℕ)) (before now : ℕ)
    → (r : Result (Unit {0}) TextFault) → Awaits P old new left left' before now r → Awaits Q old new left left' before now r
awaits_map {P} {Q} f old new left left' before now (Ok u) a = a
awaits_map {P} {Q} f old new left left' before now (Err fault.Memory) a = tt
awaits_map {P} {Q} f old new left left' before now (Err (fault.BadLine k)) (mid, there, since, w, g, h) = (mid, there, since, w, g, mapped left mid.window f h)
awaits_map {P} {Q} f old new left left' before now (Err fault.TooLong) (mid, there, since, w, g, h) = (mid, there, since, w, g, mapped left mid.window f h)
awaits_map {P} {Q} f old new left left' before now (Err fault.Read) (mid, there, since, w, g, h) = (mid, there, since, w, g, mapped left mid.window f h)

pub known : (P : Type 0) (a b : Option (List ℕ)) (w v : List ℕ) → Keeps (prepend_known w a) (prepend_known v b) → IfSome b (λ _. P) → IfSome a (λ _. P)
known P None b w v k h = tt
known P (Some xs) None w v k h = absurd k
known P (Some xs) (Some ys) w v k h = h

module _ {X Y : Type 0} {lawful : X → Type 0} {text : X → List ℕ} {read : List ℕ → Result (X × List ℕ) exact.Stop} (code : IsCode lawful text read) (says : Y → X → Type 0) (empty : read [] ≡ Err stops.More) (start new : Intake) (left' : Option (List ℕ)) (before later : ℕ) where
  open_stuck : (left : Option (List ℕ)) (mid : Intake) (there : Option (List ℕ)) (since : ℕ) (f : TextFault)
      → IsWaiting start mid left there before since → IfSome left (λ _. read mid.window ≡ Err stops.More) → GoesOn More mid new there left' since later (Err f)
      → TakesLine lawful text read says start new left left' before later (Err f)
  open_stuck (Some xs) mid there since f w h g = line_stuck w code says mid new left' later More f h refl g
  open_stuck None mid there since f w h g = by f g
    where
      by : (f : TextFault) → GoesOn More mid new there left' since later (Err f) → OrMemory (IsStuck read start.lines (room_of start) None left' before later) f
      by fault.Memory g = tt
      by (fault.BadLine n) g = (omega (arith, g.0, w.lines), tt)
      by fault.TooLong g = tt
      by fault.Read g = (rose_since before since later (omega (arith, w.unfailed)) g.1.0, ([], tt, empty, omega arith))

  pub line_awaits : (old : Intake) (left mid : Option (List ℕ)) (since : ℕ) (f : TextFault)
      → IsWaiting start old left mid before since → Awaits (AsksMore read) old new mid left' since later (Err f)
      → TakesLine lawful text read says start new left left' before later (Err f)
  line_awaits old left mid since fault.Memory w a = tt
  line_awaits old left mid since (fault.BadLine k) w (at, there, till, v, g, h) = open_stuck left at there till (fault.BadLine k) (waits_then w v) (known (read at.window ≡ Err stops.More) left mid start.window old.window w.rest h) g
  line_awaits old left mid since fault.TooLong w (at, there, till, v, g, h) = open_stuck left at there till fault.TooLong (waits_then w v) (known (read at.window ≡ Err stops.More) left mid start.window old.window w.rest h) g
  line_awaits old left mid since fault.Read w (at, there, till, v, g, h) = open_stuck left at there till fault.Read (waits_then w v) (known (read at.window ≡ Err stops.More) left mid start.window old.window w.rest h) g

pub some_is : {A : Type 0} (P : A → Type 0) (o : Option A) (a : A) → o ≡ Some a → IfSome o P → P a
some_is {A} P o a e h = subst (λ (x : Option A). IfSome x P) e h

pub some_map : {A : Type 0} {P Q : A → Type 0} (o : Option A) → ((a : A) → P a → Q a) → IfSome o P → IfSome o Q
some_map None f h = tt
some_map (Some a) f h = f a h

module _ (last : Option (List ℕ)) (head : List ℕ) (at : ℕ) (above : Option (List ℕ)) (window : List ℕ) where
  pub read_on : (first : Option (List ℕ)) → IfSome first (λ _. IsRead last head at above window) → (left : Option (List ℕ)) (n : ℕ) → at ≤ n → Settles above (take (n - at) (drop at window)) left
      → (new : List ℕ) → IfSome first (λ _. take n new ≡ take n window) → IfSome first (λ _. IsRead last head n left new)
  read_on None r left n le s new same = tt
  read_on (Some xs) r left n le s new same = read_held last head n left window (read_more last head at above window r left n le s) new same

  pub read_cuts : (first : Option (List ℕ)) → IfSome first (λ _. IsRead last head at above window) → IsLastPath above → path_at above (drop at window) ≡ Err stops.More → IfSome first (λ _. IsCut last head window)
  read_cuts None r ok e = tt
  read_cuts (Some xs) r ok e = read_cut last head at above window r ok e

pub awaits_stopped : (P : List ℕ → Type 0) (old mid new : Intake) (left there left' : Option (List ℕ)) (before since now : ℕ) (f : TextFault)
    → IsWaiting old mid left there before since → IfSome left (λ _. P mid.window) → GoesOn More mid new there left' since now (Err f) → Awaits P old new left left' before now (Err f)
awaits_stopped P old mid new left there left' before since now fault.Memory w h g = tt
awaits_stopped P old mid new left there left' before since now (fault.BadLine k) w h g = (mid, there, since, w, g, h)
awaits_stopped P old mid new left there left' before since now fault.TooLong w h g = (mid, there, since, w, g, h)
awaits_stopped P old mid new left there left' before since now fault.Read w h g = (mid, there, since, w, g, h)

-- lines whose path has only begun
module _ (last : Option (List ℕ)) (ok : IsLastPath last) (bytes window rest : List ℕ) (same : bytes ≡ window) where
  pub hit_begun : (figures : ℕ × ℕ) → hit_prefix_at bytes ≡ Ok (figures, rest) → (b : List ℕ) → IsCut last (take (length bytes - length rest) window) b → AsksMore (hit_at last) b
  hit_begun (c, l) e b (p, more, next, some, cut) =
      let f = hit_prefix_code.found bytes rest (c, l) e in
      let used : length bytes - length rest ≡ length (prefix_text (c, l)) = omega (arith, ap length f.1, length-append (prefix_text (c, l)) rest) in
      let head : take (length bytes - length rest) window ≡ prefix_text (c, l) = ap (take (length bytes - length rest)) (sym same ∙ f.1) ∙ take_at (prefix_text (c, l)) rest (length bytes - length rest) (sym used) in
      let hit : IsHit last (hit_from ((c, l), p)) = record { path = next.0; above = next.1; count = f.0.0; line = f.0.1 } in
      begun (hit_code last ok) (hit_from ((c, l), p)) hit b more some (cut ∙ ap (λ h. h ++ (escaped p ++ newline)) head ∙ sym (line_text c l p))

  pub skipped_begun : word_at (codes "skipped: ") bytes ≡ Ok rest → (b : List ℕ) → IsCut last (take (length bytes - length rest) window) b → AsksMore (skipped_at last) b
  skipped_begun e b (p, more, next, some, cut) =
      let f = word_at-found (codes "skipped: ") bytes rest e in
      let used : length bytes - length rest ≡ length (codes "skipped: ") = omega (arith, ap length f, length-append (codes "skipped: ") rest) in
      let head : take (length bytes - length rest) window ≡ codes "skipped: " = ap (take (length bytes - length rest)) (sym same ∙ f) ∙ take_at (codes "skipped: ") rest (length bytes - length rest) (sym used) in
      begun (skipped_code last ok) p next b more some (cut ∙ ap (λ h. h ++ (escaped p ++ newline)) head ∙ sym (append_assoc (codes "skipped: ") (escaped p) newline))

pub heading_begun : (last : Option (List ℕ)) → IsLast last → (b : List ℕ) → AsksMore (skipped_at None) b → AsksMore (heading_at last) b
heading_begun last ok b e =
    let m = (skipped_code None tt).more b e in
    begun (heading_code last ok) (skipped m.0) m.2 b m.1 (more_some (skipped_code None tt) b e m.0 m.2 m.1 m.3) m.3

-- digits that came after the beginning of a number go on with it
module _ (start at : ℕ) (first window : List ℕ) (begun_at : start < at) (within : at ≤ length window) where
  counted_all : IsCounted start first (take at window) → Digits (drop at window) → IsCounted start first window
  counted_all h d =
      let cut : window ≡ take at window ++ drop at window = sym (take-append-drop at window) in
      let long : length (take at window) ≡ at = length-take-le at window within in
      let low : start ≤ length (take at window) = omega (arith, long, begun_at) in
      let size = length-drop start (take at window) in
      let some : 0 < length (drop start (take at window)) = omega (arith, size, long, begun_at) in (
        ap (take start) cut ∙ take-append-le start (take at window) (drop at window) low ∙ h.0,
        ap (λ l. numeral_at 10 (drop start l)) cut ∙ ap (numeral_at 10) (drop-append-le start (take at window) (drop at window) low)
            ∙ numeral_goes 10 (omega arith) (drop start (take at window)) (drop at window) some h.1 d,
      )

  pub counted_on : (left : Option (List ℕ)) → IfSome left (λ _. IsCounted start first (take at window)) → Digits (drop at window) → IfSome left (λ _. IsCounted start first window)
  counted_on None h d = tt
  counted_on (Some xs) h d = counted_all h d

pub counted_held : (start n : ℕ) (first window new : List ℕ) (left : Option (List ℕ)) → n ≡ length window → IfSome left (λ _. IsCounted start first window) → IfSome left (λ _. take n new ≡ take n window)
    → IfSome left (λ _. IsCounted start first (take n new))
counted_held start n first window new None e h same = tt
counted_held start n first window new (Some xs) e h same = subst (IsCounted start first) (sym (same ∙ take_all n window (omega (arith, e)))) h

pub counted_first : (start n : ℕ) (window : List ℕ) → n ≡ length window → numeral_at 10 (drop start window) ≡ Err stops.More → (left : Option (List ℕ)) → IfSome left (λ _. IsCounted start window (take n window))
counted_first start n window e more None = tt
counted_first start n window e more (Some xs) = subst (IsCounted start window) (sym (take_all n window (omega (arith, e)))) (refl, more)

pub count_begun : (last : Option (List ℕ)) → IsLast last → (bytes window w rest : List ℕ) → bytes ≡ window → key_at last bytes ≡ Ok (w, rest) → (b : List ℕ)
    → IsCounted (length bytes - length rest) window b → AsksMore (heading_at last) b
count_begun last ok bytes window w rest same e b (first, counts) =
    let n = length bytes - length rest in
    let f = (key_code last ok).found bytes rest w e in
    let used : n ≡ length (w ++ 32 ∷ []) = omega (arith, ap length f.1, length-append (w ++ 32 ∷ []) rest) in
    let head : take n b ≡ w ++ 32 ∷ [] = first ∙ ap (take n) (sym same ∙ f.1) ∙ take_at (w ++ 32 ∷ []) rest n (sym used) in
    let code = numeral_code 10 (omega arith) in
    let m = code.more (drop n b) counts in
    let some = more_some code (drop n b) counts m.0 m.2 m.1 m.3 in
    begun (heading_code last ok) (word w m.0) (f.0, m.2) b m.1 some
    (ap (λ l. l ++ m.1) (sym (take-append-drop n b)) ∙ append_assoc (take n b) (drop n b) m.1 ∙ (λ i. head i ++ m.3 i) ∙ sym (word_text w m.0))
