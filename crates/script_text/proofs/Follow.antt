-- One more line after others.
use Rattle.std.proofs.Common.{◌≡◌, List, [], ◌∷◌, ◌++◌, refl}
use Rattle.larch_actions.specs.declared.event.Layout.{Layout}
use Rattle.script_text.specs.declared.line.Line.{Line}
use Rattle.script_text.specs.Operations.{Holding, Forked, holding_after, held_after, forked_with, forked_after, MayFollow}
use Rattle.script_text.specs.Table.{fate_of}

pub held_append : (h : Holding) (xs ys : List Line) → held_after h (xs ++ ys) ≡ held_after (held_after h xs) ys
held_append h [] ys = refl
held_append h (x ∷ xs) ys = held_append (holding_after h x.thread.0 x.operation) xs ys

pub forked_append : (f : Forked) (xs ys : List Line) → forked_after f (xs ++ ys) ≡ forked_after (forked_after f xs) ys
forked_append f [] ys = refl
forked_append f (x ∷ xs) ys = forked_append (forked_with f (fate_of x.operation)) xs ys

pub follow_append : (l : Layout) (h : Holding) (f : Forked) (xs ys : List Line) → MayFollow l h f xs → MayFollow l (held_after h xs) (forked_after f xs) ys → MayFollow l h f (xs ++ ys)
follow_append l h f [] ys p q = q
follow_append l h f (x ∷ xs) ys p q = (p.0, follow_append l (holding_after h x.thread.0 x.operation) (forked_with f (fate_of x.operation)) xs ys p.1 q)

pub follow_split : (l : Layout) (h : Holding) (f : Forked) (xs ys : List Line) → MayFollow l h f (xs ++ ys) → MayFollow l h f xs × MayFollow l (held_after h xs) (forked_after f xs) ys
follow_split l h f [] ys p = (tt, p)
follow_split l h f (x ∷ xs) ys p = let r = follow_split l (holding_after h x.thread.0 x.operation) (forked_with f (fate_of x.operation)) xs ys p.1 in ((p.0, r.0), r.1)
