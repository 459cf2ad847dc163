-- The plainest words: a level while the unit waits for a start, a bit of a field that the unit only listens to, or a
-- bit of a field that the line has as the unit drives it. The definitions of a word cover them; what is said here of
-- them is proved of those (`proofs/Listening.antt`).
use Rattle.std.specs.Prelude.{ℕ, Bool, true, false, not, ◌&&◌, List, ◌≡◌, eqb, ltb, Ok}
use Rattle.line.specs.Choice.{◌▹◌}
use Rattle.line.specs.Numbers.{drive_released}
use Rattle.place.specs.Frame.{shifted_of, width_of}
use Rattle.place.specs.declared.Field.{Field}
use Rattle.place.specs.declared.Field.TheVariants.{Broadcast, Master, Slave, Control, Length, Data}
use Rattle.place.specs.declared.Frame.{Frame}
use Rattle.place.specs.declared.Place.{Place}
use Rattle.place.specs.declared.Place.TheVariants.{Waiting, In}
use Rattle.rules.specs.declared.answer.Reply.TheVariants.{Taken}
use Rattle.rules.specs.declared.state.Core.{Core}
use Rattle.lent.specs.declared.step.Answered.{Answered}
use Rattle.lent.specs.declared.step.Lent.{Lent}
use Rattle.lent.specs.Both.{Loan, loan_in, state_in, taken_in}
use Rattle.rules.specs.Set.{core·frame, core·idle}
use Rattle.rules.specs.State.{State}
use Rattle.rules.specs.Step.{next_drive}

-- a bit of a field that is shifted in: not the broadcast bit, P or A
unfoldable pub inside_of : Field → ℕ → Bool
inside_of Broadcast n = false
inside_of Master n = ltb n (width_of Master)
inside_of Slave n = ltb n (width_of Slave)
inside_of Control n = ltb n (width_of Control)
inside_of Length n = ltb n (width_of Length)
inside_of Data n = ltb n (width_of Data)

abbrev pub plain_at : Place → Frame → Bool
plain_at Waiting f = true
plain_at (In field n) f = not f.leads && not f.sends && inside_of field n

unfoldable pub plain_of : Frame → Bool
plain_of f = plain_at f.place f

-- the next level is a bit of a field, whoever sends it
abbrev pub amid_at : Place → Bool
amid_at Waiting = false
amid_at (In field n) = inside_of field n

unfoldable pub amid_of : Frame → Bool
amid_of f = amid_at f.place

abbrev pub listened_at : Place → Frame → Bool → Frame
listened_at Waiting f bit = f
listened_at (In field n) f bit = shifted_of f field n bit

-- the frame after such a level
unfoldable pub listened_of : Frame → Bool → Frame
listened_of f bit = listened_at f.place f bit

abbrev pub plain_core : Core → Bool → Core
plain_core c bit = c ▹ core·idle false ▹ core·frame (listened_of c.frame bit)

-- nothing is done to the buffers
abbrev pub took_by : Lent → Bool → Lent
took_by u bit = record { core = plain_core u.core bit; tbf = u.tbf; rbf = u.rbf }

abbrev pub took_on : State → Bool → State
took_on s bit = record { core = plain_core s.core bit; tbf = s.tbf; rbf = s.rbf }

abbrev pub loan_took : Loan → Bool → Loan
loan_took l bit = record { state = took_on l.state bit; buffers = l.buffers }

-- the line is released next
abbrev pub plainly : Lent → Bool → Answered
plainly u bit = record { lent = took_by u bit; answer = Ok (Taken drive_released) }

-- the word is the level that the unit drives
abbrev pub Agrees : Lent → ℕ → Bool → Type 0
Agrees u w agrees =
    (t r : List ℕ) → agrees ≡ (amid_of u.core.frame && eqb (next_drive (state_in u t r)) w)

abbrev pub Agreed : Lent → Bool → Answered → Type 0
Agreed u bit a =
    (t r : List ℕ) → record { loan = loan_in a.lent t r; answer = a.answer } ≡ taken_in (loan_took (loan_in u t r) bit)
