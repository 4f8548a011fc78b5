-- Pieces put one after the other.
use Rattle.std.proofs.Common.{◌≡◌, ℕ, ◌+◌, ◌<◌, ◌≤◌, Bool, true, false, not, cond, ◌==◌, ◌&&◌, List, [], ◌∷◌, ◌++◌, length, get_or, take, drop, Option, Some, None, Result, Ok, Err, IsErr, refl, sym, ap, subst, ◌∙◌, append-nil, OnOk, OnErr, inl, inr, arith}
use Rattle.std.specs.Io.KnownBytes.{Appends}
use Rattle.std.specs.Cmp.{first_so, second_so}
use Rattle.std.specs.List.{flat_map, list_all}
use Rattle.std.proofs.lemmas.List.{take_more, take-append-drop}
use Rattle.std.proofs.lemmas.List.Concat.{flat_map-append}
use Rattle.firefly_outside.specs.Causes.{AppendsPrefix, HasCause}
use Rattle.text_output.specs.Sent.{Sends, Puts}
use Rattle.text_output.specs.Paths.{is_plain_byte, escaped, escaped_byte}
use Rattle.text_output.proofs.Prefixes.{appends_then, prefix_past, sends_then, fails_then, fails_first}

appends_none : (reported : Option (List ℕ)) → Appends reported reported []
appends_none None = tt
appends_none (Some xs) = sym (append-nil xs)

-- nothing was put
pub sends_none : (reported : Option (List ℕ)) (held : List ℕ) → Sends reported held [] reported held
sends_none reported held = ([], appends_none reported, sym (append-nil held))

module _ {E : Type 0} where
  -- one piece, and then the next, whichever way that went
  pub puts_then : (r : Result (Unit {0}) E) (t0 t1 t2 : Option (List ℕ)) (h0 h1 h2 p q : List ℕ) → Sends t0 h0 p t1 h1 → Puts t1 h1 q r t2 h2 → Puts t0 h0 (p ++ q) r t2 h2
  puts_then (Ok u) t0 t1 t2 h0 h1 h2 p q a b = sends_then t0 t1 t2 h0 h1 h2 p q a b
  puts_then (Err e) t0 t1 t2 h0 h1 h2 p q a b = fails_then t0 t1 t2 h0 h1 p q a b

  -- a call that failed put a prefix
  pub puts_failed : (r : Result (Unit {0}) E) (t0 t1 : Option (List ℕ)) (h0 h1 p : List ℕ) → IsErr r → AppendsPrefix t0 t1 (h0 ++ p) → Puts t0 h0 p r t1 h1
  puts_failed (Ok u) t0 t1 h0 h1 p failed k = cc
  puts_failed (Err e) t0 t1 h0 h1 p is k = k

  -- what was held went first
  pub puts_after : (r : Result (Unit {0}) E) (t0 t1 t2 : Option (List ℕ)) (held piece now : List ℕ) → now ≡ [] → Appends t0 t1 held
      → OnOk r (Appends t1 t2 piece) → OnErr r (AppendsPrefix t1 t2 piece) → Puts t0 held piece r t2 now
  puts_after (Ok u) t0 t1 t2 held piece now empty a b c = (held ++ piece, appends_then t0 t1 t2 held piece a b, rw empty (append-nil (held ++ piece)))
  puts_after (Err e) t0 t1 t2 held piece now empty a b c = prefix_past t0 t1 t2 held piece a c

-- an element of a list, after those before it
module _ {X : Type 0} (f : X → List ℕ) (xs : List X) (i : ℕ) (d : X) (here : i < length xs) where
  next : flat_map f (take (i + 1) xs) ≡ flat_map f (take i xs) ++ f (get_or xs i d)
  next =
      ap (flat_map f) (take_more xs i d here) ∙ flat_map-append f (take i xs) (get_or xs i d ∷ [])
      ∙ ap (λ l. flat_map f (take i xs) ++ l) (append-nil (f (get_or xs i d)))

  rest : flat_map f xs ≡ (flat_map f (take i xs) ++ f (get_or xs i d)) ++ flat_map f (drop (i + 1) xs)
  rest =
      ap (flat_map f) (sym (take-append-drop (i + 1) xs)) ∙ flat_map-append f (take (i + 1) xs) (drop (i + 1) xs)
      ∙ ap (λ l. l ++ flat_map f (drop (i + 1) xs)) next

  module _ (t0 t1 t2 : Option (List ℕ)) (h0 h1 : List ℕ) (before : Sends t0 h0 (flat_map f (take i xs)) t1 h1) where
    pub sends_more : (h2 : List ℕ) → Sends t1 h1 (f (get_or xs i d)) t2 h2 → Sends t0 h0 (flat_map f (take (i + 1) xs)) t2 h2
    sends_more h2 one = subst (λ p. Sends t0 h0 p t2 h2) (sym next) (sends_then t0 t1 t2 h0 h1 h2 (flat_map f (take i xs)) (f (get_or xs i d)) before one)

    pub fails_more : AppendsPrefix t1 t2 (h1 ++ f (get_or xs i d)) → AppendsPrefix t0 t2 (h0 ++ flat_map f xs)
    fails_more one = subst (λ p. AppendsPrefix t0 t2 (h0 ++ p)) (sym rest)
        (fails_first t0 t2 h0 (flat_map f (take i xs) ++ f (get_or xs i d)) (flat_map f (drop (i + 1) xs)) (fails_then t0 t1 t2 h0 h1 (flat_map f (take i xs)) (f (get_or xs i d)) before one))

plain_byte : (b : ℕ) → is_plain_byte b ≡ true → escaped_byte b ≡ b ∷ []
plain_byte b plain = by (b == 92) (b == 10) plain
  where
    by : (s t : Bool) → (not s && not t) ≡ true → cond s (92 ∷ 92 ∷ []) (cond t (92 ∷ 110 ∷ []) (b ∷ [])) ≡ b ∷ []
    by true t h = cc
    by false true h = cc
    by false false h = refl

-- a path without a byte that stands for another
pub escaped_plain : (path : List ℕ) → list_all is_plain_byte path ≡ true → escaped path ≡ path
escaped_plain [] plain = refl
escaped_plain (b ∷ path) plain =
    let here = plain_byte b (first_so (is_plain_byte b) (list_all is_plain_byte path) plain) in
    let more = escaped_plain path (second_so (is_plain_byte b) (list_all is_plain_byte path) plain) in
    λ i. here i ++ more i

module _ (t0 t1 : Option (List ℕ)) (h0 : List ℕ) where
  -- a prefix of the first of several pieces
  pub prefix_of_two : (p q : List ℕ) → AppendsPrefix t0 t1 (h0 ++ p) → AppendsPrefix t0 t1 (h0 ++ (p ++ q))
  prefix_of_two p q k = fails_first t0 t1 h0 p q k

  pub prefix_of_three : (p q r : List ℕ) → AppendsPrefix t0 t1 (h0 ++ p) → AppendsPrefix t0 t1 (h0 ++ ((p ++ q) ++ r))
  prefix_of_three p q r k = prefix_of_two (p ++ q) r (prefix_of_two p q k)

pub on_err_then : {E : Type 0} {P Q : Type 0} (r : Result (Unit {0}) E) → OnErr r P → (P → Q) → OnErr r Q
on_err_then (Ok u) h f = tt
on_err_then (Err e) h f = f h

-- what was held went after what was sent
pub flushed_prefix : (t0 t1 t2 : Option (List ℕ)) (h p : List ℕ) → Sends t0 [] p t1 h → AppendsPrefix t1 t2 h → AppendsPrefix t0 t2 p
flushed_prefix t0 t1 t2 h p a k = subst (AppendsPrefix t0 t2) a.2 (prefix_past t0 t1 t2 a.0 h a.1 k)

pub on_err_if : {E : Type 0} {P : Type 0} (r : Result (Unit {0}) E) → P → OnErr r P
on_err_if (Ok u) h = tt
on_err_if (Err e) h = h

-- the cause of a call is one since an earlier call too
pub cause_then : {T E : Type 0} (r : Result T E) {a b c : ℕ} → a ≤ b → HasCause b c r → HasCause a c r
cause_then (Ok x) h k = record { later = (let l = k.later in omega arith); failed = tt }
cause_then (Err e) h k = record { later = (let l = k.later in omega arith); failed = elim k.failed [ inl up ↦ inl (omega arith) | inr last ↦ inr last ] }

-- and it is the cause of the result that hands on its fault
pub cause_on : {T E F : Type 0} (r : Result (Unit {0}) F) {e : E} {a b c : ℕ} → a ≤ b → HasCause {T = T} b c (Err e) → HasCause a c r
cause_on r h k = let since = cause_then (Err _) h k in record { later = since.later; failed = on_err_if r since.failed }

pub on_ok_then : {E : Type 0} {P Q : Type 0} (r : Result (Unit {0}) E) → OnOk r P → (P → Q) → OnOk r Q
on_ok_then (Ok u) h f = f h
on_ok_then (Err e) h f = tt

-- what was held went after what was sent, whole
pub flushed_whole : (t0 t1 t2 : Option (List ℕ)) (h p : List ℕ) → Sends t0 [] p t1 h → Appends t1 t2 h → Appends t0 t2 p
flushed_whole t0 t1 t2 h p a k = subst (Appends t0 t2) a.2 (appends_then t0 t1 t2 a.0 h a.1 k)
