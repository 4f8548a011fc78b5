-- What several pieces add one after another.
use Rattle.std.proofs.Common.{◌≡◌, ℕ, List, ◌++◌, refl, ap, sym, ◌∙◌, append_assoc}
use Rattle.std.specs.Prelude.{codes, decimal}
use Rattle.larch_actions.specs.declared.event.Layout.{Layout}
use Rattle.larch_actions.specs.declared.kind.Kind.{Kind}
use Rattle.larch_actions.specs.declared.rows.Numbers.{Numbers}
use Rattle.larch_actions.specs.declared.rows.Kinds.{Kinds}
use Rattle.larch_actions.specs.declared.rows.Kinds.TheVariants as kinds
use Rattle.larch_actions.specs.declared.rows.Ending.{Ending}
use Rattle.larch_actions.specs.declared.rows.Ending.TheVariants.{Nothing, Returns, Raises, Yes, No, Left}
use Rattle.trace_core.specs.Text.{layout_line, with_name, with_names, with_ending, newline}

pub added_two : (old mid new p q : List ℕ) → mid ≡ old ++ p → new ≡ mid ++ q → new ≡ old ++ (p ++ q)
added_two old mid new p q e f = f ∙ ap (λ l. l ++ q) e ∙ append_assoc old p q

pub added_three : (old mid end new p q r : List ℕ) → mid ≡ old ++ p → end ≡ mid ++ q → new ≡ end ++ r → new ≡ old ++ (p ++ q ++ r)
added_three old mid end new p q r e f g = added_two old end new (p ++ q) r (added_two old mid end p q e f) g

-- the second of two pieces has two parts
pub added_pair : (old mid new p q r : List ℕ) → mid ≡ old ++ p → new ≡ mid ++ (q ++ r) → new ≡ old ++ (p ++ q ++ r)
added_pair old mid new p q r e f = added_two old mid new p (q ++ r) e f ∙ ap (λ x. old ++ x) (sym (append_assoc p q r))

pub added_four : (old a b c new p q r s : List ℕ) → a ≡ old ++ p → b ≡ a ++ q → c ≡ b ++ r → new ≡ c ++ s → new ≡ old ++ (p ++ q ++ r ++ s)
added_four old a b c new p q r s e f g h = added_two old c new (p ++ q ++ r) s (added_three old a b c p q r e f g) h

-- a text with its names and its ending, after another text
name_after : (old prefix : List ℕ) (k : Kind) (n : ℕ) → with_name (old ++ prefix) k n ≡ old ++ with_name prefix k n
name_after old prefix k n = simp append_assoc

names_past : (old prefix : List ℕ) (ks : Kinds) (x : Numbers) → with_names (old ++ prefix) ks x ≡ old ++ with_names prefix ks x
names_past old prefix kinds.Nothing x = refl
names_past old prefix (kinds.One k) x = name_after old prefix k x.first
names_past old prefix (kinds.Two k j) x = ap (λ l. with_name l j x.second) (name_after old prefix k x.first) ∙ name_after old (with_name prefix k x.first) j x.second

ending_after : (old prefix : List ℕ) (e : Ending) → with_ending (old ++ prefix) e ≡ old ++ with_ending prefix e
ending_after old prefix Nothing = refl
ending_after old prefix Returns = append_assoc old prefix (codes " returns")
ending_after old prefix Raises = append_assoc old prefix (codes " raises")
ending_after old prefix Yes = append_assoc old prefix (codes " yes")
ending_after old prefix No = append_assoc old prefix (codes " no")
ending_after old prefix (Left left) = simp append_assoc

pub added_row : (old word a b new : List ℕ) (ks : Kinds) (x : Numbers) (e : Ending) → a ≡ old ++ word → b ≡ with_names a ks x → new ≡ with_ending b e → new ≡ old ++ with_ending (with_names word ks x) e
added_row old word a b new ks x e f g h =
    h ∙ ap (λ l. with_ending l e) (g ∙ ap (λ l. with_names l ks x) f ∙ names_past old word ks x) ∙ ending_after old (with_names word ks x) e

-- five pieces, of which the second has two parts
pub added_five : (old a b c d new p q r s t u : List ℕ) → a ≡ old ++ p → b ≡ a ++ (q ++ r) → c ≡ b ++ s → d ≡ c ++ t → new ≡ d ++ u → new ≡ old ++ (p ++ q ++ r ++ s ++ t ++ u)
added_five old a b c d new p q r s t u e f g h i = added_four old b c d new (p ++ q ++ r) s t u (added_pair old a b p q r e f) g h i

layout_parts : (l : Layout) → (codes "threads " ++ decimal l.threads) ++ ((codes " mutexes " ++ decimal l.mutexes) ++ ((codes " conditions " ++ decimal l.conditions) ++ ((codes " semaphores " ++ decimal l.semaphores) ++ newline))) ≡ layout_line l
layout_parts l = simp append_assoc

five : (a p q r s t : List ℕ) → ((((a ++ p) ++ q) ++ r) ++ s) ++ t ≡ a ++ (p ++ (q ++ (r ++ (s ++ t))))
five a p q r s t = simp append_assoc

pub added_layout : (l : Layout) (old a b c d new : List ℕ) → a ≡ old ++ (codes "threads " ++ decimal l.threads) → b ≡ a ++ (codes " mutexes " ++ decimal l.mutexes) → c ≡ b ++ (codes " conditions " ++ decimal l.conditions) → d ≡ c ++ (codes " semaphores " ++ decimal l.semaphores) → new ≡ d ++ newline → new ≡ old ++ layout_line l
added_layout l old a b c d new e f g h i =
    let p = codes "threads " ++ decimal l.threads in
    let q = codes " mutexes " ++ decimal l.mutexes in
    let r = codes " conditions " ++ decimal l.conditions in
    let s = codes " semaphores " ++ decimal l.semaphores in
    i ∙ ap (λ x. x ++ newline) (h ∙ ap (λ x. x ++ s) (g ∙ ap (λ x. x ++ r) (f ∙ ap (λ x. x ++ q) e))) ∙ five old p q r s newline ∙ ap (λ x. old ++ x) (layout_parts l)
