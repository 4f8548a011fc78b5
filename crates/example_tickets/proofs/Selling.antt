-- What all threads together have sold.
use Rattle.std.proofs.Common.{◌≡◌, ◌<◌, ℕ, List, [], ◌∷◌, length, sum, arith, sym, ap, ◌∙◌, refl, true}
use mathlib.Core.Option.{some}
use lib.ListN.{get_elem?}
use Rattle.firefly_threads.specs.Laws.{at_below, at_firsts, one_begins, share_of, sum_said, the_value, total_firsts}
use Rattle.firefly_threads.specs.Ends.{firsts}
use Rattle.firefly_threads.specs.Items.{Each}
use Rattle.firefly_threads.specs.Known.{Known}
use Rattle.firefly_threads.specs.Runs.{HaveWorked}
use Rattle.example_tickets.specs.declared.uses.Sold.{Sold}
use Rattle.example_tickets.specs.Sales.{none_sold, AreSold, HasSold, IsSaid, IsSold}

-- at first all tickets are left
pub opens : (tickets n : ℕ) (values : List ℕ) → values ≡ tickets ∷ [] → AreSold tickets values (firsts (λ t. none_sold) n)
opens tickets n values is =
    let none = total_firsts (λ (s : Sold). s.count) none_sold n refl in
    one_begins (IsSold tickets) values (firsts (λ t. none_sold) n) tickets is record {
      all = omega arith;
      seen = λ t s e recorded. let fresh = ap (λ (r : Sold). r.none_left) (at_firsts none_sold n t s e) in absurd (cc);
    }

-- all tickets were sold, and none is left
pub all_sold : (tickets : ℕ) (threads : List (Known ℕ Sold ℕ)) (sold values : List ℕ)
    → HaveWorked tickets (AreSold tickets) (λ n es k s. HasSold k s) threads values sold → 0 < length sold
    → (sum sold ≡ tickets) × (values ≡ 0 ∷ [])
all_sold tickets threads sold values worked any =
    let shares = worked.shares in
    let left = the_value (IsSold tickets) values shares worked.kept in
    let many = worked.count in
    let recorded : Each (λ n s. (get_elem? sold n ≡ some s.count) × (s.none_left ≡ true)) shares = λ n s at.
    let own = worked.each n s at in
    (own.is_left ∙ ap some (sym own.goes.count), own.goes.seen) in
    let first = at_below shares 0 (omega arith) in
    let none : left.0 ≡ 0 = left.2.seen 0 first.0 first.1 (recorded 0 first.0 first.1).1 in
    let same = sum_said (λ (s : Sold). s.count) sold shares (omega arith) (λ n s at. (recorded n s at).0) in
    let all = left.2.all in
    (omega arith, left.1 ∙ ap (λ k. k ∷ []) none)

-- each thread has sold as many as it says
pub all_said : (tickets : ℕ) (threads : List (Known ℕ Sold ℕ)) (sold values : List ℕ)
    → HaveWorked tickets (AreSold tickets) (λ n es k s. HasSold k s) threads values sold → Each (IsSaid tickets sold) threads
all_said tickets threads sold values worked = λ n t at.
    let own = share_of threads worked.shares worked.each_share n t at in
    let did = worked.each n own.0 own.1 in
    record { world = (worked.same n t at).1; sold = did.left; is_said = did.is_left; share = own.0; is_share = own.2; has = did.goes }
