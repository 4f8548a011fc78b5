-- What calls do to what a thread has put and taken.
use Rattle.std.proofs.Common.{◌≡◌, ℕ, true, List, [], ◌++◌, map, Some, Err, refl, sym, ◌∙◌, ap, subst, append_assoc}
use Rattle.nub_rule.specs.Known.{Shape}
use Rattle.nub.specs.Ended.{IsFirst}
use Rattle.nub.specs.Idle.{IsIdle}
use Rattle.nub.specs.Rest.{AtRest, IsSame}
use Rattle.nub.proofs.Users.{idle_again, idle_first}
use Rattle.bounded_buffer.specs.declared.note.Note.{Note}
use Rattle.bounded_buffer.specs.declared.ends.PutEnd.{PutEnd}
use Rattle.bounded_buffer.specs.declared.ends.PutEnd.TheVariants.{Closed, Alerted as PutAlerted}
use Rattle.bounded_buffer.specs.declared.ends.TakeEnd.{TakeEnd}
use Rattle.bounded_buffer.specs.declared.ends.TakeEnd.TheVariants.{ClosedEmpty, Alerted}
use Rattle.bounded_buffer.specs.Calls.{put_did, take_did, did_last, wait_count}
use Rattle.bounded_buffer.specs.Parts.{Used, more_full, more_empty}
use Rattle.bounded_buffer.specs.Plain.{part_of}
use Rattle.job_pool.specs.declared.item.Item.{Item}
use Rattle.job_pool.specs.Working.{Worker, part_in, puts_of, takes_of, IsBetween, HasMoved}

module _ {T : Type 0} where
  pub still : (p : Shape (Unit {0})) (a : Worker T) → HasMoved p [] [] a a
  still p a = record { between = λ n h. h; puts_are = refl; takes_are = refl }

  -- one call after the other
  pub moved_on : (p : Shape (Unit {0})) (xs ys us vs : List (Item T)) (a b c : Worker T) → HasMoved p xs ys a b → HasMoved p us vs b c → HasMoved p (us ++ xs) (vs ++ ys) a c
  moved_on p xs ys us vs a b c x y = record {
    between = λ n h. y.between n (x.between n h);
    puts_are = y.puts_are ∙ (ap (λ l. us ++ l) x.puts_are ∙ sym (append_assoc us xs (puts_of a)));
    takes_are = y.takes_are ∙ (ap (λ l. vs ++ l) x.takes_are ∙ sym (append_assoc vs ys (takes_of a)));
  }

  -- after a call that is over, by the share that it left
  pub called : (p : Shape (Unit {0})) (n : ℕ) (xs ys : List (Item T)) (a b : Worker T) (was : IsBetween p n a) (r : List (Note (Item T))) → AtRest p b → IsSame a b → b.held ≡ a.held → b.share ≡ Some r
      → map (λ q. q.1) (part_of r 0).puts ≡ xs ++ map (λ q. q.1) (part_of was.share 0).puts
      → map (λ q. q.1) (part_of r 0).takes ≡ ys ++ map (λ q. q.1) (part_of was.share 0).takes → HasMoved p xs ys a b
  called p n xs ys a b was r rest same held share puts takes = record {
    between = λ k h. record { share = r; idle = idle_again p k h.share r a b h.idle rest same held share };
    puts_are = ap (λ o. map (λ q. q.1) (part_in o).puts) share ∙ (puts ∙ sym (ap (λ o. xs ++ map (λ q. q.1) (part_in o).puts) was.idle.share));
    takes_are = ap (λ o. map (λ q. q.1) (part_in o).takes) share ∙ (takes ∙ sym (ap (λ o. ys ++ map (λ q. q.1) (part_in o).takes) was.idle.share));
  }

  -- after a call that left the share
  pub called_still : (p : Shape (Unit {0})) (a b : Worker T) → ((n : ℕ) (s : List (Note (Item T))) → IsIdle p n s a → IsIdle p n s b) → b.share ≡ a.share → HasMoved p [] [] a b
  called_still p a b idle share = record {
    between = λ n h. record { share = h.share; idle = idle n h.share h.idle };
    puts_are = ap (λ o. map (λ q. q.1) (part_in o).puts) share;
    takes_are = ap (λ o. map (λ q. q.1) (part_in o).takes) share;
  }

  -- who has done nothing
  pub first_between : (p : Shape (Unit {0})) (n : ℕ) (t : Worker T) → IsFirst p (λ w t. []) n t → IsBetween p n t
  first_between p n t f = record { share = []; idle = idle_first p (λ w t. []) n t f }

  pub first_puts : (p : Shape (Unit {0})) (n : ℕ) (t : Worker T) → IsFirst p (λ w t. []) n t → puts_of t ≡ []
  first_puts p n t f = ap (λ o. map (λ q. q.1) (part_in o).puts) f.share

  pub first_takes : (p : Shape (Unit {0})) (n : ℕ) (t : Worker T) → IsFirst p (λ w t. []) n t → takes_of t ≡ []
  first_takes p n t f = ap (λ o. map (λ q. q.1) (part_in o).takes) f.share

module _ {T : Type 0} where
  -- what a call did at the buffer's mutex, by the number of the mutex
  pub at_zero : (f : Used (Item T) → Used (Item T)) (r s : List (Note (Item T))) (m : ℕ) → m ≡ 0 → part_of r m ≡ f (part_of s m) → part_of r 0 ≡ f (part_of s 0)
  at_zero f r s m e here = subst (λ j. part_of r j ≡ f (part_of s j)) e here

  pub refused_puts : (item : Item T) (end : PutEnd) (back : Item T) (k : ℕ) (u : Used (Item T)) → (did_last (put_did item (Err (end, back))) (more_full (wait_count (put_did item (Err (end, back))) k) u)).puts ≡ u.puts
  refused_puts item Closed back k u = refl
  refused_puts item PutAlerted back k u = refl

  pub refused_takes : (item : Item T) (end : PutEnd) (back : Item T) (k : ℕ) (u : Used (Item T)) → (did_last (put_did item (Err (end, back))) (more_full (wait_count (put_did item (Err (end, back))) k) u)).takes ≡ u.takes
  refused_takes item Closed back k u = refl
  refused_takes item PutAlerted back k u = refl

  pub ended_puts : (end : TakeEnd) (k : ℕ) (u : Used (Item T)) → (did_last (take_did {T = Item T} (Err end)) (more_empty (wait_count (take_did {T = Item T} (Err end)) k) u)).puts ≡ u.puts
  ended_puts ClosedEmpty k u = refl
  ended_puts Alerted k u = refl

  pub ended_takes : (end : TakeEnd) (k : ℕ) (u : Used (Item T)) → (did_last (take_did {T = Item T} (Err end)) (more_empty (wait_count (take_did {T = Item T} (Err end)) k) u)).takes ≡ u.takes
  ended_takes ClosedEmpty k u = refl
  ended_takes Alerted k u = refl

  pub ended_end : (end : TakeEnd) (k : ℕ) (u : Used (Item T)) → end ≡ ClosedEmpty → (did_last (take_did {T = Item T} (Err end)) (more_empty (wait_count (take_did {T = Item T} (Err end)) k) u)).seen_end ≡ true
  ended_end ClosedEmpty k u is = refl
  ended_end Alerted k u is = absurd (cc)
