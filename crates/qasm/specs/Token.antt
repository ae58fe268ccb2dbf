-- Document 02, request 1: the tokens of an OpenQASM text, as far as this subset's grammar has them.
use Rattle.std.specs.Prelude.{List, ℕ}

-- what an angle is written with: "whole numbers of at most four digits, pi, + − and tighter * /", brackets
pub data Mark : Type 0 where
  number : ℕ → Mark
  pi plus minus times over opens closes : Mark

-- "gates x, y, z, h, s, sdg, t, tdg"
pub data Single : Type 0 where
  g_x g_y g_z g_h g_s g_sdg g_t g_tdg : Single

-- "cx, cz"
pub data Double : Type 0 where
  g_cx g_cz : Double

pub data Word : Type 0 where
  single : Single → Word
  double : Double → Word
  u1 : Word

-- `OPENQASM`, `2.0`, `;`, `include`, `"qelib1.inc"`, `qreg`, `[`, `]` and `,`
pub data Fixed : Type 0 where
  openqasm version semicolon include file qreg begins ends comma : Fixed

-- a bad token is one that no text of the grammar has anywhere
pub data Token : Type 0 where
  mark : Mark → Token
  gate : Word → Token
  fixed : Fixed → Token
  name : List ℕ → Token
  bad : Token
