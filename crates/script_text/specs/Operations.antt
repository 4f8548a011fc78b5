-- What the lines of a script say, and which line may come next.
use Rattle.std.specs.Prelude.{◌≡◌, ◌≢◌, ℕ, ◌<◌, Bool, true, false, cond, eqb, List, [], ◌∷◌}
use Rattle.larch_actions.specs.declared.event.Version.{Version}
use Rattle.larch_actions.specs.declared.event.Version.TheVariants.{One, Two}
use Rattle.larch_actions.specs.declared.event.Layout.{Layout}
use Rattle.script_text.specs.declared.line.Operation.{Operation}
use Rattle.script_text.specs.declared.line.Line.{Line}
use Rattle.script_text.specs.declared.table.Use.{Use}
use Rattle.script_text.specs.declared.table.Use.TheVariants.{Takes, Gives, Needs, Nothing}
use Rattle.script_text.specs.declared.table.Fate.{Fate}
use Rattle.script_text.specs.declared.table.Fate.TheVariants as fate
use Rattle.script_text.specs.Table.{word_of, kinds_of, numbers_of, use_of, fate_of, AreWithin}

-- each name is below the count of its kind, and no number is too large
abbrev pub IsNamed : Layout → Operation → Type 0
IsNamed l o = AreWithin l (kinds_of (word_of o)) (numbers_of o)

-- which thread holds which mutex
abbrev pub Holding : Type 0
Holding = ℕ → ℕ → Bool

abbrev pub none_held : Holding
none_held t m = false

-- t holds m, or doesn't, and all else stays
abbrev pub held_if : Bool → Holding → ℕ → ℕ → Holding
held_if b h t m u n = cond (eqb t u) (cond (eqb m n) b (h u n)) (h u n)

-- the thread t may use the mutex so
abbrev pub MayUse : Holding → ℕ → Use → Type 0
MayUse h t (Takes m) = h t m.0 ≡ false
MayUse h t (Gives m) = h t m.0 ≡ true
MayUse h t (Needs m) = h t m.0 ≡ true
MayUse h t Nothing = Unit {0}

abbrev pub holding_with : Holding → ℕ → Use → Holding
holding_with h t (Takes m) = held_if true h t m.0
holding_with h t (Gives m) = held_if false h t m.0
holding_with h t (Needs m) = h
holding_with h t Nothing = h

-- the thread t may do this
abbrev pub MayDo : Holding → ℕ → Operation → Type 0
MayDo h t o = MayUse h t (use_of o)

abbrev pub holding_after : Holding → ℕ → Operation → Holding
holding_after h t o = holding_with h t (use_of o)

-- which threads a line has forked
abbrev pub Forked : Type 0
Forked = ℕ → Bool

abbrev pub none_forked : Forked
none_forked t = false

-- thread 0, or one that was forked
abbrev pub is_born : Forked → ℕ → Bool
is_born f t = cond (eqb t 0) true (f t)

-- a thread may begin another once, and may await another that was forked
abbrev pub MayMeet : Forked → ℕ → Fate → Type 0
MayMeet f t (fate.Begins u) = is_born f u.0 ≡ false
MayMeet f t (fate.Awaits u) = (u.0 ≢ t) × (f u.0 ≡ true)
MayMeet f t fate.Nothing = Unit {0}

-- the thread t may have a line that does this: in version one each thread, and none begins or is awaited
abbrev pub MayLive : Version → Forked → ℕ → Fate → Type 0
MayLive One f t x = x ≡ fate.Nothing
MayLive Two f t x = (is_born f t ≡ true) × MayMeet f t x

abbrev pub forked_with : Forked → Fate → Forked
forked_with f (fate.Begins u) t = cond (eqb u.0 t) true (f t)
forked_with f (fate.Awaits u) t = f t
forked_with f fate.Nothing t = f t

abbrev pub forked_after : Forked → List Line → Forked
forked_after f [] = f
forked_after f (x ∷ xs) = forked_after (forked_with f (fate_of x.operation)) xs

-- the line may come next
pub record MayCome (l : Layout) (h : Holding) (f : Forked) (x : Line) : Type 0 where
  pub thread : x.thread.0 < l.threads
  pub named : IsNamed l x.operation
  pub may : MayDo h x.thread.0 x.operation
  pub live : MayLive l.version f x.thread.0 (fate_of x.operation)

abbrev pub held_after : Holding → List Line → Holding
held_after h [] = h
held_after h (x ∷ xs) = held_after (holding_after h x.thread.0 x.operation) xs

-- the lines may come one after another
abbrev pub MayFollow : Layout → Holding → Forked → List Line → Type 0
MayFollow l h f [] = Unit {0}
MayFollow l h f (x ∷ xs) = MayCome l h f x × MayFollow l (holding_after h x.thread.0 x.operation) (forked_with f (fate_of x.operation)) xs

-- no thread holds a mutex
abbrev pub AllFree : Holding → Type 0
AllFree h = (t m : ℕ) → h t m ≡ false
