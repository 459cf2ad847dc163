-- One field of a struct replaced: antt has no record update.
use Rattle.std.specs.Prelude.{ℕ, Bool}
use Rattle.place.specs.declared.Frame.{Frame}
use Rattle.rules.specs.declared.state.Act.{Act}
use Rattle.rules.specs.declared.state.Acted.{Acted}
use Rattle.rules.specs.declared.state.Core.{Core}
use Rattle.rules.specs.declared.state.Registers.{Registers}

abbrev pub registers·own : ℕ → Registers → Registers
registers·own x s = record {
  own = x;
  enabled = s.enabled;
  long = s.long;
  slave = s.slave;
  bit = s.bit;
  retries =
      s.retries;
  control = s.control;
  marq = s.marq;
  strq = s.strq;
  slre = s.slre;
  losses = s.losses;
  lor1 =
      s.lor1;
  lor2 = s.lor2;
  rdr1 = s.rdr1;
  rdr2 = s.rdr2;
  marc = s.marc;
  slrc = s.slrc;
  locked = s.locked;
  holder = s.holder;
}

abbrev pub registers·enabled : Bool → Registers → Registers
registers·enabled x s = record {
  own = s.own;
  enabled = x;
  long = s.long;
  slave = s.slave;
  bit = s.bit;
  retries =
      s.retries;
  control = s.control;
  marq = s.marq;
  strq = s.strq;
  slre = s.slre;
  losses = s.losses;
  lor1 =
      s.lor1;
  lor2 = s.lor2;
  rdr1 = s.rdr1;
  rdr2 = s.rdr2;
  marc = s.marc;
  slrc = s.slrc;
  locked = s.locked;
  holder = s.holder;
}

abbrev pub registers·long : Bool → Registers → Registers
registers·long x s = record {
  own = s.own;
  enabled = s.enabled;
  long = x;
  slave = s.slave;
  bit = s.bit;
  retries =
      s.retries;
  control = s.control;
  marq = s.marq;
  strq = s.strq;
  slre = s.slre;
  losses = s.losses;
  lor1 =
      s.lor1;
  lor2 = s.lor2;
  rdr1 = s.rdr1;
  rdr2 = s.rdr2;
  marc = s.marc;
  slrc = s.slrc;
  locked = s.locked;
  holder = s.holder;
}

abbrev pub registers·slave : ℕ → Registers → Registers
registers·slave x s = record {
  own = s.own;
  enabled = s.enabled;
  long = s.long;
  slave = x;
  bit = s.bit;
  retries =
      s.retries;
  control = s.control;
  marq = s.marq;
  strq = s.strq;
  slre = s.slre;
  losses = s.losses;
  lor1 =
      s.lor1;
  lor2 = s.lor2;
  rdr1 = s.rdr1;
  rdr2 = s.rdr2;
  marc = s.marc;
  slrc = s.slrc;
  locked = s.locked;
  holder = s.holder;
}

abbrev pub registers·bit : Bool → Registers → Registers
registers·bit x s = record {
  own = s.own;
  enabled = s.enabled;
  long = s.long;
  slave = s.slave;
  bit = x;
  retries =
      s.retries;
  control = s.control;
  marq = s.marq;
  strq = s.strq;
  slre = s.slre;
  losses = s.losses;
  lor1 =
      s.lor1;
  lor2 = s.lor2;
  rdr1 = s.rdr1;
  rdr2 = s.rdr2;
  marc = s.marc;
  slrc = s.slrc;
  locked = s.locked;
  holder = s.holder;
}

abbrev pub registers·retries : ℕ → Registers → Registers
registers·retries x s = record {
  own = s.own;
  enabled = s.enabled;
  long = s.long;
  slave = s.slave;
  bit = s.bit;
  retries = x;
  control = s.control;
  marq = s.marq;
  strq = s.strq;
  slre = s.slre;
  losses = s.losses;
  lor1 =
      s.lor1;
  lor2 = s.lor2;
  rdr1 = s.rdr1;
  rdr2 = s.rdr2;
  marc = s.marc;
  slrc = s.slrc;
  locked = s.locked;
  holder = s.holder;
}

abbrev pub registers·control : ℕ → Registers → Registers
registers·control x s = record {
  own = s.own;
  enabled = s.enabled;
  long = s.long;
  slave = s.slave;
  bit = s.bit;
  retries = s.retries;
  control = x;
  marq = s.marq;
  strq = s.strq;
  slre = s.slre;
  losses = s.losses;
  lor1 =
      s.lor1;
  lor2 = s.lor2;
  rdr1 = s.rdr1;
  rdr2 = s.rdr2;
  marc = s.marc;
  slrc = s.slrc;
  locked = s.locked;
  holder = s.holder;
}

abbrev pub registers·marq : Bool → Registers → Registers
registers·marq x s = record {
  own = s.own;
  enabled = s.enabled;
  long = s.long;
  slave = s.slave;
  bit = s.bit;
  retries = s.retries;
  control = s.control;
  marq = x;
  strq = s.strq;
  slre = s.slre;
  losses = s.losses;
  lor1 =
      s.lor1;
  lor2 = s.lor2;
  rdr1 = s.rdr1;
  rdr2 = s.rdr2;
  marc = s.marc;
  slrc = s.slrc;
  locked = s.locked;
  holder = s.holder;
}

abbrev pub registers·strq : Bool → Registers → Registers
registers·strq x s = record {
  own = s.own;
  enabled = s.enabled;
  long = s.long;
  slave = s.slave;
  bit = s.bit;
  retries = s.retries;
  control = s.control;
  marq = s.marq;
  strq = x;
  slre = s.slre;
  losses = s.losses;
  lor1 =
      s.lor1;
  lor2 = s.lor2;
  rdr1 = s.rdr1;
  rdr2 = s.rdr2;
  marc = s.marc;
  slrc = s.slrc;
  locked = s.locked;
  holder = s.holder;
}

abbrev pub registers·slre : Bool → Registers → Registers
registers·slre x s = record {
  own = s.own;
  enabled = s.enabled;
  long = s.long;
  slave = s.slave;
  bit = s.bit;
  retries = s.retries;
  control = s.control;
  marq = s.marq;
  strq = s.strq;
  slre = x;
  losses = s.losses;
  lor1 =
      s.lor1;
  lor2 = s.lor2;
  rdr1 = s.rdr1;
  rdr2 = s.rdr2;
  marc = s.marc;
  slrc = s.slrc;
  locked = s.locked;
  holder = s.holder;
}

abbrev pub registers·losses : ℕ → Registers → Registers
registers·losses x s = record {
  own = s.own;
  enabled = s.enabled;
  long = s.long;
  slave = s.slave;
  bit = s.bit;
  retries = s.retries;
  control = s.control;
  marq = s.marq;
  strq = s.strq;
  slre = s.slre;
  losses = x;
  lor1 =
      s.lor1;
  lor2 = s.lor2;
  rdr1 = s.rdr1;
  rdr2 = s.rdr2;
  marc = s.marc;
  slrc = s.slrc;
  locked = s.locked;
  holder = s.holder;
}

abbrev pub registers·lor1 : ℕ → Registers → Registers
registers·lor1 x s = record {
  own = s.own;
  enabled = s.enabled;
  long = s.long;
  slave = s.slave;
  bit = s.bit;
  retries = s.retries;
  control = s.control;
  marq = s.marq;
  strq = s.strq;
  slre = s.slre;
  losses = s.losses;
  lor1 = x;
  lor2 = s.lor2;
  rdr1 = s.rdr1;
  rdr2 = s.rdr2;
  marc = s.marc;
  slrc = s.slrc;
  locked = s.locked;
  holder = s.holder;
}

abbrev pub registers·lor2 : ℕ → Registers → Registers
registers·lor2 x s = record {
  own = s.own;
  enabled = s.enabled;
  long = s.long;
  slave = s.slave;
  bit = s.bit;
  retries = s.retries;
  control = s.control;
  marq = s.marq;
  strq = s.strq;
  slre = s.slre;
  losses = s.losses;
  lor1 = s.lor1;
  lor2 = x;
  rdr1 = s.rdr1;
  rdr2 = s.rdr2;
  marc = s.marc;
  slrc = s.slrc;
  locked = s.locked;
  holder = s.holder;
}

abbrev pub registers·rdr1 : ℕ → Registers → Registers
registers·rdr1 x s = record {
  own = s.own;
  enabled = s.enabled;
  long = s.long;
  slave = s.slave;
  bit = s.bit;
  retries = s.retries;
  control = s.control;
  marq = s.marq;
  strq = s.strq;
  slre = s.slre;
  losses = s.losses;
  lor1 = s.lor1;
  lor2 = s.lor2;
  rdr1 = x;
  rdr2 = s.rdr2;
  marc = s.marc;
  slrc = s.slrc;
  locked = s.locked;
  holder = s.holder;
}

abbrev pub registers·rdr2 : ℕ → Registers → Registers
registers·rdr2 x s = record {
  own = s.own;
  enabled = s.enabled;
  long = s.long;
  slave = s.slave;
  bit = s.bit;
  retries = s.retries;
  control = s.control;
  marq = s.marq;
  strq = s.strq;
  slre = s.slre;
  losses = s.losses;
  lor1 = s.lor1;
  lor2 = s.lor2;
  rdr1 = s.rdr1;
  rdr2 = x;
  marc = s.marc;
  slrc = s.slrc;
  locked = s.locked;
  holder = s.holder;
}

abbrev pub registers·marc : ℕ → Registers → Registers
registers·marc x s = record {
  own = s.own;
  enabled = s.enabled;
  long = s.long;
  slave = s.slave;
  bit = s.bit;
  retries = s.retries;
  control = s.control;
  marq = s.marq;
  strq = s.strq;
  slre = s.slre;
  losses = s.losses;
  lor1 = s.lor1;
  lor2 = s.lor2;
  rdr1 = s.rdr1;
  rdr2 = s.rdr2;
  marc = x;
  slrc = s.slrc;
  locked = s.locked;
  holder = s.holder;
}

abbrev pub registers·slrc : ℕ → Registers → Registers
registers·slrc x s = record {
  own = s.own;
  enabled = s.enabled;
  long = s.long;
  slave = s.slave;
  bit = s.bit;
  retries = s.retries;
  control = s.control;
  marq = s.marq;
  strq = s.strq;
  slre = s.slre;
  losses = s.losses;
  lor1 = s.lor1;
  lor2 = s.lor2;
  rdr1 = s.rdr1;
  rdr2 = s.rdr2;
  marc = s.marc;
  slrc = x;
  locked = s.locked;
  holder = s.holder;
}

abbrev pub registers·locked : Bool → Registers → Registers
registers·locked x s = record {
  own = s.own;
  enabled = s.enabled;
  long = s.long;
  slave = s.slave;
  bit = s.bit;
  retries = s.retries;
  control = s.control;
  marq = s.marq;
  strq = s.strq;
  slre = s.slre;
  losses = s.losses;
  lor1 = s.lor1;
  lor2 = s.lor2;
  rdr1 = s.rdr1;
  rdr2 = s.rdr2;
  marc = s.marc;
  slrc = s.slrc;
  locked = x;
  holder = s.holder;
}

abbrev pub registers·holder : ℕ → Registers → Registers
registers·holder x s = record {
  own = s.own;
  enabled = s.enabled;
  long = s.long;
  slave = s.slave;
  bit = s.bit;
  retries = s.retries;
  control = s.control;
  marq = s.marq;
  strq = s.strq;
  slre = s.slre;
  losses = s.losses;
  lor1 = s.lor1;
  lor2 = s.lor2;
  rdr1 = s.rdr1;
  rdr2 = s.rdr2;
  marc = s.marc;
  slrc = s.slrc;
  locked =
      s.locked;
  holder = x;
}

abbrev pub core·regs : Registers → Core → Core
core·regs x s = record { regs = x; frame = s.frame; idle = s.idle }

abbrev pub core·frame : Frame → Core → Core
core·frame x s = record { regs = s.regs; frame = x; idle = s.idle }

abbrev pub core·idle : Bool → Core → Core
core·idle x s = record { regs = s.regs; frame = s.frame; idle = x }

abbrev pub acted·core : Core → Acted → Acted
acted·core x s = record { core = x; act = s.act }

abbrev pub acted·act : Act → Acted → Acted
acted·act x s = record { core = s.core; act = x }
