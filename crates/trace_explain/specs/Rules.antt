-- The rows of the table in words. SELF is the thread of the event, and m, c and s are the names in it.
use Rattle.std.specs.Prelude.{ℕ, List, codes}
use Rattle.larch_actions.specs.declared.event.Action.{Action}
use Rattle.larch_actions.specs.declared.event.Action.TheVariants.{Acquire, Release, Enqueue, Resume, AlertEnqueue, AlertReturn, AlertRaise, Signal, Broadcast, P, V, Alert, TestAlert, AlertPReturn, AlertPRaise, Fork, End, Join}
use Rattle.larch_actions.specs.declared.event.Version.{Version}
use Rattle.larch_actions.specs.declared.event.Version.TheVariants.{One, Two}
use Rattle.larch_actions.specs.declared.event.Broken.{Broken}
use Rattle.larch_actions.specs.declared.event.Broken.TheVariants as broken

-- what the order asks
abbrev pub order_rule : Version → List ℕ
order_rule One =
    codes "after the first part of a wait a thread's next event is the second part of that wait, and no other thread makes a second part"
order_rule Two =
    codes "a thread makes events from its fork to its end alone; after the first part of a wait its next event is the second part of that wait, and no other thread makes a second part"

-- what the row of an action says
abbrev pub row_of : Action → List ℕ
row_of (Acquire m) = codes "WHEN the holder of m is NIL; ENSURES the holder of m is SELF"
row_of (Release m) = codes "REQUIRES the holder of m is SELF; ENSURES the holder of m is NIL"
row_of (Enqueue m c) = codes "REQUIRES the holder of m is SELF; ENSURES SELF is in c and the holder of m is NIL"
row_of (Resume m c) = codes "WHEN the holder of m is NIL and SELF is not in c; ENSURES the holder of m is SELF"
row_of (AlertEnqueue m c) = codes "REQUIRES the holder of m is SELF; ENSURES SELF is in c and the holder of m is NIL"
row_of (AlertReturn m c) = codes "WHEN the holder of m is NIL and SELF is not in c; ENSURES the holder of m is SELF"
row_of (AlertRaise m c) =
    codes "WHEN the holder of m is NIL and SELF is alerted; ENSURES the holder of m is SELF, and SELF is neither in c nor alerted"
row_of (Signal c left) = codes "ENSURES c is what is left, which is empty or a proper subset of c before"
row_of (Broadcast c) = codes "ENSURES c is empty"
row_of (P s) = codes "WHEN s is available; ENSURES s is not available"
row_of (V s) = codes "ENSURES s is available"
row_of (Alert t) = codes "ENSURES the other thread is alerted"
row_of (TestAlert answer) = codes "ENSURES the answer tells whether SELF was alerted, and SELF is not alerted"
row_of (AlertPReturn s) = codes "WHEN s is available; ENSURES s is not available"
row_of (AlertPRaise s) = codes "WHEN SELF is alerted; ENSURES SELF is not alerted"
row_of (Fork t) = codes "REQUIRES the other thread is unborn; ENSURES the other thread is live"
row_of End = codes "REQUIRES SELF holds no mutex; ENSURES SELF has ended"
row_of (Join t) = codes "WHEN the other thread has ended"

-- the rule that an event fails
abbrev pub rule_of : Version → Broken → Action → List ℕ
rule_of version broken.Order a = order_rule version
rule_of version broken.Requires a = row_of a
rule_of version broken.When a = row_of a
rule_of version broken.Ensures a = row_of a
