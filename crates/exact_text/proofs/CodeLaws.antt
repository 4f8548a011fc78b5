-- Exact reading of one thing after another, of a choice, and of the parts of a value.
use Rattle.std.proofs.Common.{◌≡◌, ℕ, ◌⊎◌, inl, inr, List, [], ◌++◌, refl, ap, sym, subst, ◌∙◌, append-nil, append_assoc, Bool, true, false, Ok, Err}
use Rattle.std.specs.declared.result.Result.{Result}
use Rattle.exact_text.specs.declared.stop.Stop.{Stop}
use Rattle.exact_text.specs.declared.stop.Stop.TheVariants.{More, Dead}
use Rattle.exact_text.specs.Reading.{◌>>=◌, or_else, word_at, after_word, only_if}
use Rattle.exact_text.proofs.Words.{word_at-found, word_at-again, word_at-more, word_at-dead}
use Rattle.exact_text.specs.Codes.{IsCode}

pub bind_ok : {A B : Type 0} (r : Result A Stop) (f : A → Result B Stop) (y : B) → (r >>= f) ≡ Ok y → (x : A) × (r ≡ Ok x) × (f x ≡ Ok y)
bind_ok (Ok x) f y e = (x, refl, e)
bind_ok (Err s) f y e = absurd (cc)

pub bind_err : {A B : Type 0} (r : Result A Stop) (f : A → Result B Stop) (s : Stop) → (r >>= f) ≡ Err s → (r ≡ Err s) ⊎ ((x : A) × (r ≡ Ok x) × (f x ≡ Err s))
bind_err (Ok x) f s e = inr (x, refl, e)
bind_err (Err t) f s e = inl (cc)

pub ok_injective : {A : Type 0} {x y : A} → (let a : Result A Stop = Ok x in a) ≡ Ok y → x ≡ y
ok_injective e = cc

-- bytes begin with one value's text, and the rest of them is one
pub read_same : {X : Type 0} {lawful : X → Type 0} {text : X → List ℕ} {read : List ℕ → Result (X × List ℕ) Stop} → IsCode lawful text read
    → (x y : X) (a b : List ℕ) → lawful x → lawful y → text x ++ a ≡ text y ++ b → (x ≡ y) × (a ≡ b)
read_same {X} {lawful} {text} {read} code x y a b l m e =
    let same : (let p : X × List ℕ = (x, a) in p) ≡ (y, b) = ok_injective (sym (code.again x a l) ∙ ap read e ∙ code.again y b m) in
    (ap (λ (p : X × List ℕ). p.0) same, ap (λ (p : X × List ℕ). p.1) same)

-- what was read stays read, however the bytes go on
pub stays : {X : Type 0} {lawful : X → Type 0} {text : X → List ℕ} {read : List ℕ → Result (X × List ℕ) Stop} → IsCode lawful text read
    → (bytes rest more : List ℕ) (x : X) → read bytes ≡ Ok (x, rest) → read (bytes ++ more) ≡ Ok (x, rest ++ more)
stays {X} {lawful} {text} {read} code bytes rest more x e =
    let f = code.found bytes rest x e in
    let split : bytes ++ more ≡ text x ++ (rest ++ more) = ap (λ l. l ++ more) f.1 ∙ append_assoc (text x) rest more in
    ap read split ∙ code.again x (rest ++ more) f.0

-- a value, and then another that may depend on it
pub then_code : {X Y : Type 0} {lawful : X → Type 0} {text : X → List ℕ} {read : List ℕ → Result (X × List ℕ) Stop} → IsCode lawful text read
    → (lawful' : X → Y → Type 0) (text' : X → Y → List ℕ) (read' : X → List ℕ → Result (Y × List ℕ) Stop)
    → ((x : X) → lawful x → IsCode (lawful' x) (text' x) (read' x))
    → ((x : X) → lawful x → (y : Y) × lawful' x y)
    → IsCode (λ (p : X × Y). lawful p.0 × lawful' p.0 p.1) (λ p. text p.0 ++ text' p.0 p.1) (λ bytes. read bytes >>= λ x. read' x.0 x.1 >>= λ y. Ok ((x.0, y.0), y.1))
then_code {X} {Y} {lawful} {text} {read} code lawful' text' read' codes some = record {
  found = λ bytes rest p e.
      let a = bind_ok (read bytes) _ _ e in
      let b = bind_ok (read' a.0.0 a.0.1) _ _ a.2 in
      let f = code.found bytes a.0.1 a.0.0 a.1 in
      let g = (codes a.0.0 f.0).found a.0.1 b.0.1 b.0.0 b.1 in
      let Q : (X × Y) × List ℕ → Type 0 = λ q. (lawful q.0.0 × lawful' q.0.0 q.0.1) × (bytes ≡ (text q.0.0 ++ text' q.0.0 q.0.1) ++ q.1) in
      subst Q (ok_injective b.2) ((f.0, g.0), f.1 ∙ ap (λ l. text a.0.0 ++ l) g.1 ∙ sym (append_assoc (text a.0.0) (text' a.0.0 b.0.0) b.0.1));
  again = λ p rest l.
      let e : read ((text p.0 ++ text' p.0 p.1) ++ rest) ≡ Ok (p.0, text' p.0 p.1 ++ rest) = ap read (append_assoc (text p.0) (text' p.0 p.1) rest) ∙ code.again p.0 (text' p.0 p.1 ++ rest) l.0 in
      rw e (rw ((codes p.0 l.0).again p.1 rest l.1) refl);
  more = λ bytes e.
      elim (bind_err (read bytes) _ _ e) [
        | inl q ↦
            let m = code.more bytes q in
            let y = some m.0 m.2 in
            ((m.0, y.0), m.1 ++ text' m.0 y.0, (m.2, y.1), sym (append_assoc bytes m.1 (text' m.0 y.0)) ∙ ap (λ l. l ++ text' m.0 y.0) m.3)
        | inr a ↦
            let f = code.found bytes a.0.1 a.0.0 a.1 in
            elim (bind_err (read' a.0.0 a.0.1) _ _ a.2) [
              | inl q ↦
                  let m = (codes a.0.0 f.0).more a.0.1 q in
                  ((a.0.0, m.0), m.1, (f.0, m.2), ap (λ l. l ++ m.1) f.1 ∙ append_assoc (text a.0.0) a.0.1 m.1 ∙ ap (λ l. text a.0.0 ++ l) m.3)
              | inr b ↦ let h = b.2 in absurd (cc)
            ]
      ];
  dead = λ bytes more e.
      elim (bind_err (read bytes) _ _ e) [
        | inl q ↦ rw (code.dead bytes more q) refl
        | inr a ↦
            let f = code.found bytes a.0.1 a.0.0 a.1 in
            let k = stays code bytes a.0.1 more a.0.0 a.1 in
            elim (bind_err (read' a.0.0 a.0.1) _ _ a.2) [
              | inl q ↦ rw k (rw ((codes a.0.0 f.0).dead a.0.1 more q) refl)
              | inr b ↦ let h = b.2 in absurd (cc)
            ]
      ];
}

-- the same values under another form
pub as_code : {X Z : Type 0} {lawful : X → Type 0} {text : X → List ℕ} {read : List ℕ → Result (X × List ℕ) Stop} → IsCode lawful text read
    → (f : X → Z) (lawful' : Z → Type 0) (text' : Z → List ℕ)
    → ((x : X) → lawful x → lawful' (f x) × (text' (f x) ≡ text x))
    → ((z : Z) → lawful' z → (x : X) × lawful x × (z ≡ f x))
    → IsCode lawful' text' (λ bytes. read bytes >>= λ x. Ok (f x.0, x.1))
as_code {X} {Z} {lawful} {text} {read} code f lawful' text' to from = record {
  found = λ bytes rest z e.
      let a = bind_ok (read bytes) _ _ e in
      let g = code.found bytes a.0.1 a.0.0 a.1 in
      let t = to a.0.0 g.0 in
      let Q : Z × List ℕ → Type 0 = λ q. lawful' q.0 × (bytes ≡ text' q.0 ++ q.1) in
      subst Q (ok_injective a.2) (t.0, g.1 ∙ ap (λ l. l ++ a.0.1) (sym t.1));
  again = λ z rest l.
      let x = from z l in
      let t = to x.0 x.1 in
      let e : read (text' z ++ rest) ≡ Ok (x.0, rest) = ap read (ap (λ l. l ++ rest) (ap text' x.2 ∙ t.1)) ∙ code.again x.0 rest x.1 in
      rw e (ap (λ v. Ok (v, rest)) (sym x.2));
  more = λ bytes e.
      elim (bind_err (read bytes) _ _ e) [
        | inl q ↦ let m = code.more bytes q in let t = to m.0 m.2 in (f m.0, m.1, t.0, m.3 ∙ sym t.1)
        | inr a ↦ let h = a.2 in absurd (cc)
      ];
  dead = λ bytes more e.
      elim (bind_err (read bytes) _ _ e) [
        | inl q ↦ rw (code.dead bytes more q) refl
        | inr a ↦ let h = a.2 in absurd (cc)
      ];
}

-- no text of the one kind goes on as one of the other
abbrev pub AreApart : {Z : Type 0} → (Z → Type 0) → (Z → Type 0) → (Z → List ℕ) → Type 0
AreApart {Z} one other text = (x y : Z) (a b : List ℕ) → one x → other y → text x ++ a ≡ text y ++ b → ⊥

pub or_ok : {A : Type 0} (r s : Result A Stop) (x : A) → or_else r s ≡ Ok x → (r ≡ Ok x) ⊎ ((r ≡ Err Dead) × (s ≡ Ok x))
or_ok (Ok y) s x e = inl e
or_ok (Err More) s x e = absurd (cc)
or_ok (Err Dead) s x e = inr (refl, e)

pub or_more : {A : Type 0} (r s : Result A Stop) → or_else r s ≡ Err More → (r ≡ Err More) ⊎ (s ≡ Err More)
or_more (Ok y) s e = absurd (cc)
or_more (Err More) s e = inl refl
or_more (Err Dead) s e = inr e

pub or_dead : {A : Type 0} (r s : Result A Stop) → or_else r s ≡ Err Dead → (r ≡ Err Dead) × (s ≡ Err Dead)
or_dead (Ok y) s e = absurd (cc)
or_dead (Err More) s e = absurd (cc)
or_dead (Err Dead) s e = (refl, e)

-- reading that is no other answer answers Dead
pub dead_from : {A : Type 0} (r : Result A Stop) → ((x : A) → r ≡ Ok x → ⊥) → (r ≡ Err More → ⊥) → r ≡ Err Dead
dead_from (Ok x) no_ok no_more = absurd (no_ok x refl)
dead_from (Err More) no_ok no_more = absurd (no_more refl)
dead_from (Err Dead) no_ok no_more = refl

-- one kind of text or the other
pub or_code : {Z : Type 0} {one other : Z → Type 0} {text : Z → List ℕ} {read read' : List ℕ → Result (Z × List ℕ) Stop} → IsCode one text read → IsCode other text read' → AreApart one other text
    → IsCode (λ z. one z ⊎ other z) text (λ bytes. or_else (read bytes) (read' bytes))
or_code {Z} {one} {other} {text} {read} {read'} code code' apart = record {
  found = λ bytes rest z e.
      elim (or_ok (read bytes) (read' bytes) _ e) [
        | inl q ↦ let f = code.found bytes rest z q in (inl f.0, f.1)
        | inr q ↦ let f = code'.found bytes rest z q.1 in (inr f.0, f.1)
      ];
  again = λ z rest l.
      elim l [
        | inl l ↦ rw (code.again z rest l) refl
        | inr l ↦
            let none : read (text z ++ rest) ≡ Err Dead = dead_from (read (text z ++ rest))
            (λ x e. let f = code.found (text z ++ rest) x.1 x.0 e in apart x.0 z x.1 rest f.0 l (sym f.1))
            (λ e. let m = code.more (text z ++ rest) e in apart m.0 z [] (rest ++ m.1) m.2 l (append-nil (text m.0) ∙ sym m.3 ∙ append_assoc (text z) rest m.1)) in
            rw none (code'.again z rest l)
      ];
  more = λ bytes e.
      elim (or_more (read bytes) (read' bytes) e) [
        | inl q ↦ let m = code.more bytes q in (m.0, m.1, inl m.2, m.3)
        | inr q ↦ let m = code'.more bytes q in (m.0, m.1, inr m.2, m.3)
      ];
  dead = λ bytes more e.
      let q = or_dead (read bytes) (read' bytes) e in
      rw (code.dead bytes more q.0) (code'.dead bytes more q.1);
}

-- nothing is lawful, and nothing is read
pub no_code : {Z : Type 0} (lawful : Z → Type 0) (text : Z → List ℕ) → ((z : Z) → lawful z → ⊥) → IsCode lawful text (λ _. Err Dead)
no_code lawful text none = record {
  found = λ bytes rest z e. absurd (cc);
  again = λ z rest l. absurd (none z l);
  more = λ bytes e. absurd (cc);
  dead = λ bytes more e. refl;
}

-- the same values and texts, said in another way
pub same_code : {X : Type 0} {lawful : X → Type 0} {text : X → List ℕ} {read : List ℕ → Result (X × List ℕ) Stop} → IsCode lawful text read
    → (lawful' : X → Type 0) (text' : X → List ℕ)
    → ((x : X) → text' x ≡ text x) → ((x : X) → lawful x → lawful' x) → ((x : X) → lawful' x → lawful x) → IsCode lawful' text' read
same_code {X} {lawful} {text} {read} code lawful' text' same to from = record {
  found = λ bytes rest x e. let f = code.found bytes rest x e in (to x f.0, f.1 ∙ ap (λ l. l ++ rest) (sym (same x)));
  again = λ x rest l. ap read (ap (λ l. l ++ rest) (same x)) ∙ code.again x rest (from x l);
  more = λ bytes e. let m = code.more bytes e in (m.0, m.1, to m.0 m.2, m.3 ∙ sym (same m.0));
  dead = code.dead;
}

-- the same texts of the lawful values, said in another way
pub lawful_code : {X : Type 0} {lawful : X → Type 0} {text : X → List ℕ} {read : List ℕ → Result (X × List ℕ) Stop} → IsCode lawful text read
    → (text' : X → List ℕ) → ((x : X) → lawful x → text' x ≡ text x) → IsCode lawful text' read
lawful_code {X} {lawful} {text} {read} code text' same = record {
  found = λ bytes rest x e. let f = code.found bytes rest x e in (f.0, f.1 ∙ ap (λ l. l ++ rest) (sym (same x f.0)));
  again = λ x rest l. ap read (ap (λ l. l ++ rest) (same x l)) ∙ code.again x rest l;
  more = λ bytes e. let m = code.more bytes e in (m.0, m.1, m.2, m.3 ∙ sym (same m.0 m.2));
  dead = code.dead;
}

-- after a word
pub word_code : {X : Type 0} {lawful : X → Type 0} {text : X → List ℕ} {read : List ℕ → Result (X × List ℕ) Stop} → IsCode lawful text read → (word : List ℕ) → (some : (x : X) × lawful x)
    → IsCode lawful (λ x. word ++ text x) (after_word word read)
word_code {X} {lawful} {text} {read} code word some = record {
  found = λ bytes rest x e.
      let a = bind_ok (word_at word bytes) read _ e in
      let f = code.found a.0 rest x a.2 in
      (f.0, word_at-found word bytes a.0 a.1 ∙ ap (λ l. word ++ l) f.1 ∙ sym (append_assoc word (text x) rest));
  again = λ x rest l.
      let e : word_at word ((word ++ text x) ++ rest) ≡ Ok (text x ++ rest) = ap (word_at word) (append_assoc word (text x) rest) ∙ word_at-again word (text x ++ rest) in
      rw e (code.again x rest l);
  more = λ bytes e.
      elim (bind_err (word_at word bytes) read _ e) [
        | inl q ↦ let m = word_at-more word bytes q in (some.0, m.0 ++ text some.0, some.1, sym (append_assoc bytes m.0 (text some.0)) ∙ ap (λ l. l ++ text some.0) m.1)
        | inr a ↦
            let m = code.more a.0 a.2 in
            (m.0, m.1, m.2, ap (λ l. l ++ m.1) (word_at-found word bytes a.0 a.1) ∙ append_assoc word a.0 m.1 ∙ ap (λ l. word ++ l) m.3)
      ];
  dead = λ bytes more e.
      elim (bind_err (word_at word bytes) read _ e) [
        | inl q ↦ rw (word_at-dead word bytes more q) refl
        | inr a ↦
            let k : word_at word (bytes ++ more) ≡ Ok (a.0 ++ more) =
            ap (λ l. word_at word (l ++ more)) (word_at-found word bytes a.0 a.1) ∙ ap (word_at word) (append_assoc word a.0 more) ∙ word_at-again word (a.0 ++ more)
            in rw k (code.dead a.0 more a.2)
      ];
}

-- nothing to read at all
pub nothing_code : {Z : Type 0} (z : Z) (lawful : Z → Type 0) (text : Z → List ℕ) → lawful z → ((x : Z) → lawful x → (x ≡ z)) → (text z ≡ []) → IsCode lawful text (λ rest. Ok (z, rest))
nothing_code {Z} z lawful text holds only empty = record {
  found = λ bytes rest x e.
      let Q : Z × List ℕ → Type 0 = λ q. lawful q.0 × (bytes ≡ text q.0 ++ q.1) in
      subst Q (ok_injective e) (holds, ap (λ l. l ++ bytes) (sym empty));
  again = λ x rest l. ap (λ p. Ok p) (cc (only x l, ap text (only x l), empty));
  more = λ bytes e. absurd (cc);
  dead = λ bytes more e. absurd (cc);
}

-- only where the test holds
pub only_code : {Z : Type 0} (b : Bool) (lawful : Z → Type 0) (text : Z → List ℕ) (read : List ℕ → Result (Z × List ℕ) Stop)
    → (b ≡ true → IsCode lawful text read) → (b ≡ false → (z : Z) → lawful z → ⊥) → IsCode lawful text (only_if b read)
only_code true lawful text read then_it else_none = then_it refl
only_code false lawful text read then_it else_none = no_code lawful text (else_none refl)
