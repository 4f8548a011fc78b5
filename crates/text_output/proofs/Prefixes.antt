-- Bytes that a sink got, one after another.
use Rattle.std.proofs.Common.{◌≡◌, ℕ, ◌+◌, ◌<◌, ◌≤◌, List, ◌++◌, length, take, sym, ap, subst, ◌∙◌, arith, Option, Some, None, append_assoc, length-append}
use Rattle.std.proofs.Math.Seq.{take-append-add}
use Rattle.std.proofs.lemmas.List.{take-append-le}
use Rattle.std.specs.Io.KnownBytes.{Appends}
use Rattle.firefly_outside.specs.Causes.{AppendsPrefix}
use Rattle.text_output.specs.Sent.{Sends}

pub appends_then : (reported mid now : Option (List ℕ)) (a b : List ℕ) → Appends reported mid a → Appends mid now b → Appends reported now (a ++ b)
appends_then None mid now a b h k = tt
appends_then (Some xs) None now a b h k = absurd h
appends_then (Some xs) (Some ys) None a b h k = absurd k
appends_then (Some xs) (Some ys) (Some zs) a b h k = k ∙ ap (λ l. l ++ b) h ∙ append_assoc xs a b

-- a prefix after what was put is a prefix of both
pub prefix_past : (reported mid now : Option (List ℕ)) (a b : List ℕ) → Appends reported mid a → AppendsPrefix mid now b → AppendsPrefix reported now (a ++ b)
prefix_past reported mid now a b h k =
    let short : length a + k.0 < length (a ++ b) = omega (arith, k.1, length-append a b) in
    (length a + k.0, short, rw take-append-add (appends_then reported mid now a (take k.0 b) h k.2))

-- a prefix of a text is one of any longer text
pub prefix_of_more : (reported now : Option (List ℕ)) (a more : List ℕ) → AppendsPrefix reported now a → AppendsPrefix reported now (a ++ more)
prefix_of_more reported now a more k =
    let short : k.0 < length (a ++ more) = omega (arith, k.1, length-append a more) in
    let within : k.0 ≤ length a = omega (arith, k.1) in
    (k.0, short, rw take-append-le k.2)

joined : (s h o p q : List ℕ) → s ++ h ≡ o ++ p → s ++ (h ++ q) ≡ o ++ (p ++ q)
joined s h o p q e = sym (append_assoc s h q) ∙ ap (λ l. l ++ q) e ∙ append_assoc o p q

-- one piece and then another
pub sends_then : (t0 t1 t2 : Option (List ℕ)) (h0 h1 h2 p q : List ℕ) → Sends t0 h0 p t1 h1 → Sends t1 h1 q t2 h2 → Sends t0 h0 (p ++ q) t2 h2
sends_then t0 t1 t2 h0 h1 h2 p q a b = (a.0 ++ b.0, appends_then t0 t1 t2 a.0 b.0 a.1 b.1, append_assoc a.0 b.0 h2 ∙ ap (λ l. a.0 ++ l) b.2 ∙ joined a.0 h1 h0 p q a.2)

-- one piece, and a prefix of what is then held and the next
pub fails_then : (t0 t1 t2 : Option (List ℕ)) (h0 h1 p q : List ℕ) → Sends t0 h0 p t1 h1 → AppendsPrefix t1 t2 (h1 ++ q) → AppendsPrefix t0 t2 (h0 ++ (p ++ q))
fails_then t0 t1 t2 h0 h1 p q a k = subst (AppendsPrefix t0 t2) (joined a.0 h1 h0 p q a.2) (prefix_past t0 t1 t2 a.0 (h1 ++ q) a.1 k)

-- a fault at the first piece
pub fails_first : (t0 t1 : Option (List ℕ)) (h0 p q : List ℕ) → AppendsPrefix t0 t1 (h0 ++ p) → AppendsPrefix t0 t1 (h0 ++ (p ++ q))
fails_first t0 t1 h0 p q k = subst (AppendsPrefix t0 t1) (append_assoc h0 p q) (prefix_of_more t0 t1 (h0 ++ p) q k)
