-- What each event does when no number refuses it (document 01, "What each event does", with T-01 of document 02). Assumes nothing.
use Rattle.std.specs.Prelude.{ℕ, ◌*◌, Bool, false, cond as pick, eqb, ltb}
use Rattle.rules.specs.Types.{Want, Read, Write, Cell, MessageKind, Free, Tokens, OwnershipAck, DeletionAck, Message, State, Event, Answer, Arrival, Stepped}
use Rattle.rules.specs.Tools.{when, fill_to}
use Rattle.rules.specs.States.{free_message, is_free, cell_at, slot_at, serial_at, with_cells, with_cell, with_slot, with_serial}
use Rattle.rules.specs.Cells.{with_want, written, back_up, give, received, unbacked, unblocked, cleared, recreated, settled}
use Rattle.rules.specs.Refusals.{reading, writing, sending, delivering, dropping, wanting_read, wanting_write, cell_of, lowest_free, next, lowest, refusal}

-- an answer: number, word, slot
abbrev pub answer : ℕ → ℕ → ℕ → Answer
answer n w i = record { number = n; word = w; slot = i }

-- a state with an answer
abbrev pub answered : State → ℕ → ℕ → ℕ → Stepped
answered s n w i = record { state = s; answer = answer n w i }

-- read answers the data word
unfoldable pub read_of : State → Event → Stepped
read_of s e = answered s 0 (cell_of s e).word 64

-- write replaces it
unfoldable pub write_of : State → Event → Stepped
write_of s e = answered (with_cell s e.line e.node (written e.word (cell_of s e))) 0 0 64

-- the message of a send: with the current serial q, and with the data mark the word of the sender's cell x
abbrev pub sent_message : Event → ℕ → Cell → Message
sent_message e q x =
    record {
      kind = Tokens;
      line = e.line;
      source = e.node;
      destination = e.other;
      serial = record { 0 = q };
      tokens = record { 0 = e.amount };
      owner = eqb e.owner 1;
      full = eqb e.full 1;
      word = pick (eqb e.full 1) x.word 0;
    }

-- the sender's cell after a send: with the owner mark it loses owner and takes a backup; the count falls
unfoldable pub sent_cell : Event → Cell → Cell
sent_cell e x = give e.amount (when (eqb e.owner 1) back_up x)

-- send puts the message into the lowest free slot
unfoldable pub send_of : State → Event → Stepped
send_of s e =
    answered
    (with_slot (with_cell s e.line e.node (sent_cell e (cell_of s e))) (lowest_free s)
    (sent_message e (serial_at s e.line) (cell_of s e)))
    0
    0
    (lowest_free s)

-- drop, and a message that is discarded: the slot is emptied and nothing else happens
abbrev pub emptied : State → ℕ → Stepped
emptied s i = answered (with_slot s i free_message) 0 0 64

-- the cell that a message is for
abbrev pub target : State → Message → Cell
target s m = cell_at s m.line m.destination

-- the state with that cell, and what stands in the slot, replaced
abbrev pub landed : State → ℕ → Message → Cell → Message → State
landed s i m c reply = with_slot (with_cell s m.line m.destination c) i reply

-- an acknowledgment of a message, back to its source; replies bear the current serial q
abbrev pub ack : MessageKind → ℕ → Message → Message
ack k q m =
    record {
      kind = k;
      line = m.line;
      source = m.destination;
      destination = m.source;
      serial = record { 0 = q };
      tokens = record { 0 = 0 };
      owner = false;
      full = false;
      word = 0;
    }

-- what a delivery leaves: the cell that the message is for, the kind of the reply in the slot (free: none), the answer
abbrev pub arrival : Cell → MessageKind → Answer → Arrival
arrival x k a = record { cell = x; reply = k; answer = a }

-- an acknowledgment that is discarded: the cell as it was, no reply
abbrev pub discarded : Cell → Arrival
discarded x = arrival x Free (answer 0 0 64)

-- a message m of the line's serial is delivered from slot i to the cell x, by its kind
unfoldable pub arrive : ℕ → ℕ → Cell → Message → MessageKind → Arrival
arrive n i x m Free = discarded x
arrive n i x m Tokens =
    arrival (settled n (received m x)) (pick m.owner OwnershipAck Free) (answer 0 1 (pick m.owner i 64))
arrive n i x m OwnershipAck = pick x.backup (arrival (unbacked x) DeletionAck (answer 0 1 i)) (discarded x)
arrive n i x m DeletionAck = pick x.blocked (arrival (unblocked x) Free (answer 0 1 64)) (discarded x)

-- what then stands in the slot: nothing, or the reply to m
unfoldable pub reply_of : MessageKind → ℕ → Message → Message
reply_of k q m = pick (is_free k) free_message (ack k q m)

-- the state and the answer after an arrival of m from slot i
abbrev pub leaves : State → ℕ → ℕ → Message → Arrival → Stepped
leaves s i q m a = record { state = landed s i m a.cell (reply_of a.reply q m); answer = a.answer }

-- deliver empties the slot; a message whose serial is not the line's is discarded and nothing else happens, another arrives
unfoldable pub deliver_of : State → Event → Stepped
deliver_of s e =
    let m = slot_at s e.amount in
    let q = serial_at s m.line in
    pick (eqb m.serial.0 q) (leaves s e.amount q m (arrive s.sizes.total.0 e.amount (target s m) m m.kind))
    (emptied s e.amount)

-- want records the want
unfoldable pub want_of : State → Event → Want → Stepped
want_of s e w = answered (with_cell s e.line e.node (with_want w (cell_of s e))) 0 0 64

-- the word of a recreation, from the cell x of the node named and the line's cells: of the lowest-numbered owner; if none, the lowest-numbered valid cell; if none, the backup of the node named (document 02, T-01), or 0 if it has none, which no step uses (18 or 23 refuses)
unfoldable pub word_for : Cell → (ℕ → Cell) → ℕ
word_for x cells =
    let o = lowest cells (λ c. c.owner) in
    let v = lowest cells (λ c. c.valid) in
    pick (ltb o 9) (cells o).word (pick (ltb v 9) (cells v).word (pick x.backup x.saved 0))

-- a cell of the line after a recreation: it loses tokens, marks and words and keeps its want; the chosen node's then gets n tokens, owner, valid and the word w, and its want ends if it is able to do what it wants
unfoldable pub after_recreation : ℕ → ℕ → Bool → Cell → Cell
after_recreation n w chosen c = pick chosen (settled n (recreated n w c)) (cleared c)

-- the line's cells after a recreation for the node, node by node
abbrev pub recreated_line : ℕ → ℕ → (ℕ → Cell) → ℕ → Cell
recreated_line n node cells j = after_recreation n (word_for (cells node) cells) (eqb j node) (cells j)

-- a timeout recreates the line's tokens for the node and gives the line its next serial; messages stay in the pool
unfoldable pub recreate_of : State → Event → Stepped
recreate_of s e =
    answered
    (with_serial
    (with_cells s (fill_to 9 (e.line * 9) (recreated_line s.sizes.total.0 e.node (cell_at s e.line)) s.cells))
    e.line
    (next (serial_at s e.line)))
    0
    0
    64

-- the effect of an event of kind k (a kind above 9 is refused before)
unfoldable pub effect : State → Event → ℕ → Stepped
effect s e k =
    pick (reading k) (read_of s e)
    (pick (writing k) (write_of s e)
    (pick (sending k) (send_of s e)
    (pick (delivering k) (deliver_of s e)
    (pick (dropping k) (emptied s e.amount)
    (pick (wanting_read k) (want_of s e Read)
    (pick (wanting_write k) (want_of s e Write)
    (recreate_of s e)))))))

-- one step: refused, with the number, word 0, slot 64 and the state as it came; or done
unfoldable pub step_of : State → Event → Stepped
step_of s e = pick (eqb (refusal s e) 0) (effect s e e.kind) (answered s (refusal s e) 0 64)
