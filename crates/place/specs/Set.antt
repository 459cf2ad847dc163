-- One field of a struct replaced: antt has no record update.
use Rattle.std.specs.Prelude.{ℕ, Bool}
use Rattle.place.specs.declared.Event.{Event}
use Rattle.place.specs.declared.Frame.{Frame}
use Rattle.place.specs.declared.Moved.{Moved}
use Rattle.place.specs.declared.Place.{Place}

abbrev pub frame·place : Place → Frame → Frame
frame·place x s = record {
  place = x;
  shift = s.shift;
  broadcast = s.broadcast;
  master = s.master;
  sound = s.sound;
  slave = s.slave;
  control = s.control;
  length = s.length;
  attempts = s.attempts;
  acked = s.acked;
  ack =
      s.ack;
  leads = s.leads;
  sends = s.sends;
  byte = s.byte;
  limit = s.limit;
}

abbrev pub frame·shift : ℕ → Frame → Frame
frame·shift x s = record {
  place = s.place;
  shift = x;
  broadcast = s.broadcast;
  master = s.master;
  sound = s.sound;
  slave = s.slave;
  control = s.control;
  length = s.length;
  attempts = s.attempts;
  acked = s.acked;
  ack =
      s.ack;
  leads = s.leads;
  sends = s.sends;
  byte = s.byte;
  limit = s.limit;
}

abbrev pub frame·broadcast : Bool → Frame → Frame
frame·broadcast x s = record {
  place = s.place;
  shift = s.shift;
  broadcast = x;
  master = s.master;
  sound = s.sound;
  slave = s.slave;
  control = s.control;
  length = s.length;
  attempts = s.attempts;
  acked = s.acked;
  ack =
      s.ack;
  leads = s.leads;
  sends = s.sends;
  byte = s.byte;
  limit = s.limit;
}

abbrev pub frame·master : ℕ → Frame → Frame
frame·master x s = record {
  place = s.place;
  shift = s.shift;
  broadcast = s.broadcast;
  master = x;
  sound = s.sound;
  slave = s.slave;
  control = s.control;
  length = s.length;
  attempts = s.attempts;
  acked = s.acked;
  ack =
      s.ack;
  leads = s.leads;
  sends = s.sends;
  byte = s.byte;
  limit = s.limit;
}

abbrev pub frame·sound : Bool → Frame → Frame
frame·sound x s = record {
  place = s.place;
  shift = s.shift;
  broadcast = s.broadcast;
  master = s.master;
  sound = x;
  slave = s.slave;
  control = s.control;
  length = s.length;
  attempts = s.attempts;
  acked = s.acked;
  ack =
      s.ack;
  leads = s.leads;
  sends = s.sends;
  byte = s.byte;
  limit = s.limit;
}

abbrev pub frame·slave : ℕ → Frame → Frame
frame·slave x s = record {
  place = s.place;
  shift = s.shift;
  broadcast = s.broadcast;
  master = s.master;
  sound =
      s.sound;
  slave = x;
  control = s.control;
  length = s.length;
  attempts = s.attempts;
  acked = s.acked;
  ack =
      s.ack;
  leads = s.leads;
  sends = s.sends;
  byte = s.byte;
  limit = s.limit;
}

abbrev pub frame·control : ℕ → Frame → Frame
frame·control x s = record {
  place = s.place;
  shift = s.shift;
  broadcast = s.broadcast;
  master = s.master;
  sound =
      s.sound;
  slave = s.slave;
  control = x;
  length = s.length;
  attempts = s.attempts;
  acked = s.acked;
  ack =
      s.ack;
  leads = s.leads;
  sends = s.sends;
  byte = s.byte;
  limit = s.limit;
}

abbrev pub frame·length : ℕ → Frame → Frame
frame·length x s = record {
  place = s.place;
  shift = s.shift;
  broadcast = s.broadcast;
  master = s.master;
  sound =
      s.sound;
  slave = s.slave;
  control = s.control;
  length = x;
  attempts = s.attempts;
  acked = s.acked;
  ack =
      s.ack;
  leads = s.leads;
  sends = s.sends;
  byte = s.byte;
  limit = s.limit;
}

abbrev pub frame·attempts : ℕ → Frame → Frame
frame·attempts x s = record {
  place = s.place;
  shift = s.shift;
  broadcast = s.broadcast;
  master = s.master;
  sound =
      s.sound;
  slave = s.slave;
  control = s.control;
  length = s.length;
  attempts = x;
  acked = s.acked;
  ack =
      s.ack;
  leads = s.leads;
  sends = s.sends;
  byte = s.byte;
  limit = s.limit;
}

abbrev pub frame·acked : ℕ → Frame → Frame
frame·acked x s = record {
  place = s.place;
  shift = s.shift;
  broadcast = s.broadcast;
  master = s.master;
  sound =
      s.sound;
  slave = s.slave;
  control = s.control;
  length = s.length;
  attempts = s.attempts;
  acked = x;
  ack =
      s.ack;
  leads = s.leads;
  sends = s.sends;
  byte = s.byte;
  limit = s.limit;
}

abbrev pub frame·ack : Bool → Frame → Frame
frame·ack x s = record {
  place = s.place;
  shift = s.shift;
  broadcast = s.broadcast;
  master = s.master;
  sound =
      s.sound;
  slave = s.slave;
  control = s.control;
  length = s.length;
  attempts = s.attempts;
  acked = s.acked;
  ack = x;
  leads = s.leads;
  sends = s.sends;
  byte = s.byte;
  limit = s.limit;
}

abbrev pub frame·leads : Bool → Frame → Frame
frame·leads x s = record {
  place = s.place;
  shift = s.shift;
  broadcast = s.broadcast;
  master = s.master;
  sound =
      s.sound;
  slave = s.slave;
  control = s.control;
  length = s.length;
  attempts = s.attempts;
  acked = s.acked;
  ack = s.ack;
  leads = x;
  sends = s.sends;
  byte = s.byte;
  limit = s.limit;
}

abbrev pub frame·sends : Bool → Frame → Frame
frame·sends x s = record {
  place = s.place;
  shift = s.shift;
  broadcast = s.broadcast;
  master = s.master;
  sound =
      s.sound;
  slave = s.slave;
  control = s.control;
  length = s.length;
  attempts = s.attempts;
  acked = s.acked;
  ack = s.ack;
  leads = s.leads;
  sends = x;
  byte = s.byte;
  limit = s.limit;
}

abbrev pub frame·byte : ℕ → Frame → Frame
frame·byte x s = record {
  place = s.place;
  shift = s.shift;
  broadcast = s.broadcast;
  master = s.master;
  sound =
      s.sound;
  slave = s.slave;
  control = s.control;
  length = s.length;
  attempts = s.attempts;
  acked = s.acked;
  ack = s.ack;
  leads = s.leads;
  sends = s.sends;
  byte = x;
  limit = s.limit;
}

abbrev pub frame·limit : ℕ → Frame → Frame
frame·limit x s = record {
  place = s.place;
  shift = s.shift;
  broadcast = s.broadcast;
  master = s.master;
  sound =
      s.sound;
  slave = s.slave;
  control = s.control;
  length = s.length;
  attempts = s.attempts;
  acked = s.acked;
  ack = s.ack;
  leads = s.leads;
  sends = s.sends;
  byte = s.byte;
  limit = x;
}

abbrev pub moved·frame : Frame → Moved → Moved
moved·frame x s = record { frame = x; event = s.event }

abbrev pub moved·event : Event → Moved → Moved
moved·event x s = record { frame = s.frame; event = x }
