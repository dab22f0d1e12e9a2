-- The number of the C interface: GALTUYEG_VERSION of the header that fits the library. It is raised by 1 whenever a function, a struct
-- or a number of the interface is added or changed.
-- Assumes nothing.
use Rattle.std.specs.Prelude.{ℕ}

abbrev pub version_number : ℕ
version_number = 5
