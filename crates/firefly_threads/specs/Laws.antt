-- What proofs of a program cite: threads between two calls and with a mutex, sums over shares, one
-- value at a time, what calls add, and lists.
pub use Rattle.atomic_table.proofs.Lists.{at_index, at_set, set_again, set_else, set_here}
pub use Rattle.firefly_threads.specs.Counting.{total_same}
pub use Rattle.firefly_threads.specs.Tracing.{in_history, is_traced}
pub use Rattle.nub.proofs.Adding.{added, added_on, adds_on}
pub use Rattle.nub.proofs.Guards.{guarded_after, one_after, one_begins, the_value}
pub use Rattle.nub.proofs.Holding.{fits_any, fits_own, gives, held_back, held_on, keeps, may_give, retakes, takes}
pub use Rattle.nub.proofs.Totals.{at_firsts, own_part, part_set, sum_said, total_firsts, total_most}
pub use Rattle.nub.proofs.Users.{all_recorded, first_own, from_at, idle_again, idle_done, idle_first, idle_own, same_on, share_count, share_of}
pub use Rattle.nub_rule.proofs.Each.{at_below, at_within}
pub use Rattle.package_crew.proofs.Times.{range_more, times_on, times_range}
pub use Rattle.package_crew.proofs.Values.{one_fits, one_kept, one_opens}
