-- What was drawn, between two events.
use Rattle.std.proofs.Common.{◌≡◌, ℕ, zero, suc, ◌+◌, ◌-◌, ◌<◌, ◌≤◌, Bool, true, false, refl, Some, None, List, [], ◌∷◌, ◌++◌, length, length-append, take, ap, sym, ◌∙◌, arith}
use Rattle.std.specs.Prelude.{nat_lt, ◌==◌, ◌&&◌, ◌||◌, not, if◌then◌else◌}
use Rattle.larch_actions.specs.declared.thread_set.ThreadSet.{ThreadSet}
use Rattle.larch_actions.specs.Sets.{in_set}
use Rattle.trace_board.specs.declared.history.Change.{Change}
use Rattle.trace_board.specs.declared.history.Change.TheVariants.{Begins, Ends, Stays}
use Rattle.trace_board.specs.declared.causes.Cause.{Cause}
use Rattle.trace_board.specs.declared.causes.Cause.TheVariants.{Never, Awaited, By}
use Rattle.trace_board.specs.declared.causes.CauseChange.{CauseChange}
use Rattle.trace_board.specs.declared.causes.CauseChange.TheVariants as change
use Rattle.trace_board.specs.declared.causes.CauseChange.TheVariants.{Frees}
use Rattle.trace_board.specs.declared.board.Reason.{Reason}
use Rattle.trace_board.specs.declared.board.Reason.TheVariants as reason
use Rattle.trace_board.specs.declared.board.Reason.TheVariants.{Condition, Alerted, Ended, Nobody}
use Rattle.trace_board.specs.declared.marks.Effects.{Effects}
use Rattle.trace_shapes.specs.declared.view.Band.{Band}
use Rattle.trace_shapes.specs.declared.view.Way.{Way}
use Rattle.trace_shapes.specs.declared.view.Shape.{Shape}
use Rattle.trace_shapes.specs.declared.view.Shape.TheVariants.{Bent, FromEnd}
use Rattle.trace_shapes.specs.Shapes.{each_below}
use Rattle.trace_shapes.specs.Arrows.{link, tags_text, lets_go, forks, straight, way_or_hook, arrow_text, arrow_if, wake_text, wake_if, fork_text}
use Rattle.trace_picture.specs.declared.plan.Page.{Page}
use Rattle.trace_picture.specs.Bands.{way_from_alert, arrow_by, freeing, thread_at, wake_at, wakes_by, fork_by, arrows_at}
use Rattle.std.specs.declared.option.Option.{Option}
use Rattle.std.proofs.lemmas.List.{length-take-le}
use Rattle.std.proofs.lemmas.Bool.Decides.{nat_tests}
use Rattle.trace_board.specs.declared.history.Origin.{Origin}
use Rattle.trace_board.specs.Tracked.{Tracked, let_on_by}
use Rattle.trace_picture.specs.Shown.{Drawn, has_text}

is_less : (i n : ℕ) → i < n → nat_lt i n ≡ true
is_less i n h = grind (arith, nat_tests)

is_no_less : (i n : ℕ) → n ≤ i → nat_lt i n ≡ false
is_no_less i n h = grind (arith, nat_tests)

-- what was added ends later where it is a text
pub text_there : (buf buf' text : List ℕ) (at end : ℕ) → at ≤ length buf → end ≤ length buf' → take end buf' ≡ take at buf ++ text → nat_lt at end ≡ has_text text
text_there buf buf' text at end a b e =
    longer text (omega (arith, sym (length-take-le end buf' b) ∙ ap length e, length-append (take at buf) text, length-take-le at buf a))
  where
    longer : (t : List ℕ) → end ≡ at + length t → nat_lt at end ≡ has_text t
    longer [] size = is_no_less at end (omega (arith, size))
    longer (x ∷ t) size = is_less at end (omega (arith, size))

pub same_drawn : (k k' : Tracked) (f g : ℕ → Option Origin) (p p' : Page) → k ≡ k' → f ≡ g → p ≡ p' → (let d : Drawn = record { board = k; shown = f; page = p } in d) ≡ record { board = k'; shown = g; page = p' }
same_drawn k k' f g p p' board shown page = λ i. record { board = board i; shown = shown i; page = page i }

-- whether there is a text, of two
text_of : (xs ys : List ℕ) → has_text (xs ++ ys) ≡ (has_text xs || has_text ys)
text_of [] ys = refl
text_of (x ∷ xs) ys = refl

-- An event has arrows in one band where it has them in another.
module _ (b c : Band) (same : b.threads ≡ c.threads) where
  tagged : (w : Way) (o : Origin) (rest : List ℕ) → has_text (tags_text w o ++ rest) ≡ true
  unfolding tags_text
  tagged w o rest = refl

  same_arrow : (shape : Shape) (n t : ℕ) (x : Option Origin) → has_text (arrow_if shape b n t x) ≡ has_text (arrow_if shape c n t x)
  unfolding arrow_text
  same_arrow shape n t None = refl
  same_arrow shape n t (Some o) = at (o.thread.0 == t)
    where
      there : (d : Band) → has_text (arrow_text shape (link d n t o)) ≡ true
      there d = tagged (way_or_hook shape (link d n t o)) o (lets_go t)

      at : (y : Bool) → has_text (if y then [] else arrow_text shape (link b n t o)) ≡ has_text (if y then [] else arrow_text shape (link c n t o))
      at true = refl
      at false = there b ∙ sym (there c)

  same_by : (k : Tracked) (o : Origin) (wait : Change) (r : Reason) → has_text (arrow_by b k o wait r) ≡ has_text (arrow_by c k o wait r)
  same_by k o wait (Condition t) = refl
  same_by k o wait (reason.Semaphore s) = same_arrow Bent o.place o.thread.0 (let_on_by k (reason.Semaphore s))
  same_by k o wait (Alerted t) = same_arrow (way_from_alert wait) o.place o.thread.0 (let_on_by k (Alerted t))
  same_by k o wait (Ended t) = same_arrow FromEnd o.place o.thread.0 (let_on_by k (Ended t))
  same_by k o wait Nobody = refl

  same_wake : (o : Origin) (cond : ℕ) (left : ThreadSet) (u : ℕ) (x : Cause) → has_text (wake_if (freeing b o cond left) u x) ≡ has_text (wake_if (freeing c o cond left) u x)
  unfolding wake_text
  same_wake o cond left u Never = refl
  same_wake o cond left u (By p) = refl
  same_wake o cond left u (Awaited k) = at (k == cond && not (in_set left u))
    where
      there : (d : Band) → has_text (wake_text d o u) ≡ true
      there d = tagged (straight (link d o.place u o)) o (lets_go u)

      at : (y : Bool) → has_text (if y then wake_text b o u else []) ≡ has_text (if y then wake_text c o u else [])
      at true = there b ∙ sym (there c)
      at false = refl

  same_wakes : (o : Origin) (cond : ℕ) (left : ThreadSet) (stands : ℕ → Cause) (n : ℕ)
      → has_text (each_below (wake_at (freeing b o cond left) stands) n) ≡ has_text (each_below (wake_at (freeing c o cond left) stands) n)
  unfolding each_below
  same_wakes o cond left stands zero = refl
  same_wakes o cond left stands (suc n) =
      let f = freeing b o cond left in
      let g = freeing c o cond left in
      let turn : thread_at f n ≡ thread_at g n = ap (λ z. if nat_lt n o.thread.0 then n else o.thread.0 + (z - 1 - n)) same in
      let one : has_text (wake_at f stands n) ≡ has_text (wake_at g stands n) =
      ap (λ u. has_text (wake_if f u (stands u))) turn ∙ same_wake o cond left (thread_at g n) (stands (thread_at g n))
      in
      text_of (each_below (wake_at f stands) n) (wake_at f stands n) ∙ (λ i. same_wakes o cond left stands n i || one i)
      ∙ sym (text_of (each_below (wake_at g stands) n) (wake_at g stands n))

  same_freed : (o : Origin) (stands : ℕ → Cause) (change : CauseChange) → has_text (wakes_by b o stands change) ≡ has_text (wakes_by c o stands change)
  same_freed o stands (Frees cond left) = same_wakes o cond left stands b.threads ∙ ap (λ n. has_text (each_below (wake_at (freeing c o cond left) stands) n)) same
  same_freed o stands (change.Awaits k at) = refl
  same_freed o stands (change.Ends k) = refl
  same_freed o stands (change.Opens k) = refl
  same_freed o stands (change.Comes k) = refl
  same_freed o stands change.Stays = refl

  same_fork : (o : Origin) (life : Change) → has_text (fork_by b o life) ≡ has_text (fork_by c o life)
  unfolding fork_text
  same_fork o (Begins u) = tagged (straight (link b o.place u o)) o (forks u) ∙ sym (tagged (straight (link c o.place u o)) o (forks u))
  same_fork o (Ends u) = refl
  same_fork o Stays = refl

  pub same_arrows : (k : Tracked) (o : Origin) (m : Effects) → has_text (arrows_at b k o m) ≡ has_text (arrows_at c k o m)
  unfolding arrows_at
  same_arrows k o m =
      let split : (d : Band) → has_text (arrow_by d k o m.wait m.waker ++ wakes_by d o k.stands m.stand ++ fork_by d o m.life)
      ≡ ((has_text (arrow_by d k o m.wait m.waker) || has_text (wakes_by d o k.stands m.stand)) || has_text (fork_by d o m.life)) =
      λ d. text_of (arrow_by d k o m.wait m.waker ++ wakes_by d o k.stands m.stand) (fork_by d o m.life)
      ∙ ap (λ x. x || has_text (fork_by d o m.life)) (text_of (arrow_by d k o m.wait m.waker) (wakes_by d o k.stands m.stand))
      in
      split b ∙ (λ i. (same_by k o m.wait m.waker i || same_freed o k.stands m.stand i) || same_fork o m.life i) ∙ sym (split c)
