-- What each way out of reading the value lines means for the bytes that weren't read before.
use Rattle.std.proofs.Common.{◌≡◌, ℕ, ◌+◌, ◌-◌, ◌^◌, ◌<◌, ◌≤◌, ◌⊎◌, inl, inr, List, [], ◌∷◌, ◌++◌, length, length-append, take, refl, ap, sym, subst, ◌∙◌, Ok, Err, Some, None, IfSome, OnOk, OnErr, IfErr, true, arith}
use Rattle.std.specs.Io.KnownBytes.{Consumes, IsAtEnd, Keeps, prepend_known}
use Rattle.std.specs.declared.option.Option.{Option}
use Rattle.std.specs.declared.result.Result.{Result}
use Rattle.larch_actions.specs.declared.event.Layout.{Layout}
use Rattle.trace_core.specs.declared.line.Expect.TheVariants as expect
use Rattle.exact_text.specs.declared.intake.Intake.{Intake}
use Rattle.exact_text.specs.declared.fault.TextFault.{TextFault}
use Rattle.exact_text.specs.Prefixes.{Begins, IsBrokenAt}
use Rattle.exact_text.specs.Exact.{IsShown, HasReason, bytes_room}
use Rattle.exact_text.specs.Intake.{IsAsked, rest_of, room_of}
use Rattle.trace_core.specs.Steps.{IsEnding}
use Rattle.trace_core.specs.Text.{MutexValue, IsValues, end_line, value_line}
use Rattle.trace_core.specs.Lines.{IsSomeValues, IsPossible}
use Rattle.exact_text.proofs.Stuck.{take_more_than}
use Rattle.exact_text.proofs.Grammar.{empty_prefix}
use Rattle.exact_text.proofs.Texts.{bytes_before, left_reason}
use Rattle.trace_core.proofs.LineLaws.{line_code}
use Rattle.trace_core.proofs.Texts.{line_grammar}

values_begin : (l : Layout) (least : ℕ) → Begins (IsValues l least) []
values_begin l least = ([], ([], tt, refl))

-- the end of the input is the end of the values
pub values_end : (l : Layout) (least room : ℕ) (left left' : Option (List ℕ)) (w : List ℕ) → w ≡ [] → Keeps left left' → IsAtEnd left' → IfSome (prepend_known w left) (λ bytes. IsValues l least bytes × (length bytes ≤ room))
values_end l least room None left' w e k end = tt
values_end l least room (Some xs) None w e k end = absurd k
values_end l least room (Some xs) (Some ys) w e k end =
    let none : w ++ xs ≡ [] = ap (λ l. l ++ xs) e ∙ sym k ∙ end in
    (([], tt, none), omega (arith, ap length none))

-- bytes after the end of a text that can't go on are a bad line
past_end : (T : List ℕ → Type 0) → ((bytes : List ℕ) → T bytes → bytes ≡ []) → Begins T [] → (r left : Option (List ℕ)) (w : List ℕ) (room : ℕ) → Keeps r (prepend_known w left) → length w ≤ room → 0 < length w → IfSome r (λ input. IsShown T room input 1)
past_end T only empty None left w room k le some = tt
past_end T only empty (Some xs) None w room k le some = absurd k
past_end T only empty (Some xs) (Some ys) [] room k le some = absurd (omega arith)
past_end T only empty (Some xs) (Some ys) (c ∷ w) room k le some =
    let cut : take room xs ≡ c ∷ (w ++ take (room - length (c ∷ w)) ys) = ap (take room) (sym k) ∙ take_more_than room (c ∷ w) ys le in
    inl (subst (λ l. IsBrokenAt T l 1) (sym cut) (record {
      counted = omega arith;
      before = empty;
      broken = λ b. let e = only _ b.1 in absurd (cc);
    }))

no_values : (l : Layout) (least : ℕ) → l.mutexes ≤ least → (bytes : List ℕ) → IsValues l least bytes → bytes ≡ []
no_values l least none bytes ([], h, e) = e
no_values l least none bytes (v ∷ vs, h, e) = absurd (omega (arith, h.0, h.1))

-- where no mutex is left, any further byte is a bad line
pub past_values : (l : Layout) (least room : ℕ) (r left : Option (List ℕ)) (w : List ℕ) → l.mutexes ≤ least → Keeps r (prepend_known w left) → length w ≤ room → 0 < length w → IfSome r (λ input. IsShown (IsValues l least) room input 1)
past_values l least room r left w none k le some = past_end (IsValues l least) (no_values l least none) (values_begin l least) r left w room k le some

all_values : (l : Layout) (least : ℕ) (bytes : List ℕ) → IsSomeValues l least bytes → IsValues l least bytes
all_values l least bytes (v, vs, h, e) = (v ∷ vs, h, e)

pub all_begin : (l : Layout) (least : ℕ) (bytes : List ℕ) → Begins (IsSomeValues l least) bytes → Begins (IsValues l least) bytes
all_begin l least bytes b = (b.0, all_values l least (bytes ++ b.0) b.1)

some_values : (l : Layout) (least : ℕ) (bytes : List ℕ) → IsValues l least bytes → (bytes ≡ []) ⊎ IsSomeValues l least bytes
some_values l least bytes ([], h, e) = inl e
some_values l least bytes (v ∷ vs, h, e) = inr (v, vs, h, e)

-- the same, seen from before it was asked whether a byte is left
pub asked_reason : (l : Layout) (least : ℕ) → IsPossible (expect.Values l least) → (old new : Intake) (left left1 left' : Option (List ℕ)) (first before now : ℕ) (fault : TextFault)
    → IsAsked old new left left1 first before (Ok true) → first ≤ before → HasReason (IsSomeValues l least) (bytes_room (room_of new)) new.lines (rest_of new left1) left' before now fault
    → HasReason (IsValues l least) (bytes_room (room_of old)) old.lines (rest_of old left) left' first now fault
asked_reason l least ok old new left left1 left' first before now fault a le h =
    left_reason (some_values l least) (all_values l least) (empty_prefix (line_grammar (expect.Values l least) ok) (line_code (expect.Values l least) ok)) (bytes_room (room_of old)) (bytes_room (room_of new)) (bytes_before [] (room_of old) (room_of new) (omega (arith, a.1))) old new left left1 left' first before now fault a le h

pub on_ok : {T E P Q : Type 0} (r : Result T E) → (P → Q) → OnOk r P → OnOk r Q
on_ok (Ok x) f h = f h
on_ok (Err e) f h = tt

pub on_err : {T E P Q : Type 0} (r : Result T E) → (P → Q) → OnErr r P → OnErr r Q
on_err (Ok x) f h = tt
on_err (Err e) f h = f h

pub if_err : {T E : Type 0} {P Q : E → Type 0} (r : Result T E) → ((e : E) → P e → Q e) → IfErr r P → IfErr r Q
if_err (Ok x) f h = tt
if_err (Err e) f h = f e h

-- a value line, and then values
pub one_more_value : (l : Layout) (least k v room room' : ℕ) (r r' r'' : Option (List ℕ)) → Keeps r r' → (least ≤ k) × (k < l.mutexes) × (v < 2 ^ 64) → Consumes r' r'' (value_line (record { mutex = k; value = v })) → room' + length (value_line (record { mutex = k; value = v })) ≡ room
    → IfSome r'' (λ bytes. IsValues l (k + 1) bytes × (length bytes ≤ room')) → IfSome r (λ bytes. IsValues l least bytes × (length bytes ≤ room))
one_more_value l least k v room room' None r' r'' same a c size h = tt
one_more_value l least k v room room' (Some xs) None r'' same a c size h = absurd same
one_more_value l least k v room room' (Some xs) (Some ys) None same a c size h = absurd c
one_more_value l least k v room room' (Some xs) (Some ys) (Some zs) same a c size h =
    let one : MutexValue = record { mutex = k; value = v } in
    let whole : xs ≡ value_line one ++ zs = sym same ∙ c in
    ((one ∷ h.0.0, (a.0, a.1, a.2, h.0.1), whole ∙ ap (λ b. value_line one ++ b) h.0.2), omega (arith, ap length whole, length-append (value_line one) zs, h.1))

-- the end line, and then values
pub ending : (l : Layout) (n room room' : ℕ) (r r' : Option (List ℕ)) → Consumes r r' (end_line n) → room' + length (end_line n) ≡ room
    → IfSome r' (λ bytes. IsValues l 0 bytes × (length bytes ≤ room')) → IfSome r (λ bytes. IsEnding l n bytes × (length bytes ≤ room))
ending l n room room' None r' c size h = tt
ending l n room room' (Some xs) None c size h = absurd c
ending l n room room' (Some xs) (Some ys) c size h =
    ((h.0.0, h.0.1, c ∙ ap (λ b. end_line n ++ b) h.0.2), omega (arith, ap length c, length-append (end_line n) ys, h.1))
