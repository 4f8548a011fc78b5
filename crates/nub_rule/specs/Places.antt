-- Where the words and the slots of a table are, whatever the layout. Words of different objects,
-- and of different threads below 64, are on different cache lines; a thread from 64 on shares the
-- line of the thread below 64 whose number is its own modulo 64.
use Rattle.std.specs.Prelude.{ℕ, ◌+◌, ◌*◌, ◌/◌, ◌%◌}

-- the greatest number of threads
abbrev pub most_threads : ℕ
most_threads = 256

-- objects: mutexes from 0 on, semaphores from 64 on, conditions from 128 on
abbrev pub sem_object : ℕ → ℕ
sem_object s = 64 + s

abbrev pub cond_object : ℕ → ℕ
cond_object c = 128 + c

-- the bit of a mutex or semaphore
abbrev pub bit_at : ℕ → ℕ
bit_at o = 16 * o

-- the spin word of an object
abbrev pub spin_at : ℕ → ℕ
spin_at o = 16 * o + 1

-- the length word of an object's queue
abbrev pub length_at : ℕ → ℕ
length_at o = 16 * o + 2

-- the count of a condition
abbrev pub count_at : ℕ → ℕ
count_at o = 16 * o + 3

-- the waiters count of a condition
abbrev pub waits_at : ℕ → ℕ
waits_at o = 16 * o + 4

-- the pen, and the number of the next event
abbrev pub pen_at : ℕ
pen_at = 3072

abbrev pub number_at : ℕ
number_at = 3073

-- the words of a thread, which come last: 64 lines, each for four threads
abbrev pub thread_at : ℕ → ℕ
thread_at t = 16 * (t % 64) + 4 * (t / 64) + 3088

abbrev pub alert_at : ℕ → ℕ
alert_at t = thread_at t

abbrev pub ready_at : ℕ → ℕ
ready_at t = thread_at t + 1

abbrev pub life_at : ℕ → ℕ
life_at t = thread_at t + 2

abbrev pub word_count : ℕ
word_count = 3088 + 16 * 64

-- the slot of an object's queue
abbrev pub queue_at : ℕ → ℕ
queue_at o = o

-- the slot of a mutex's value
abbrev pub value_at : ℕ → ℕ
value_at m = 192 + m
