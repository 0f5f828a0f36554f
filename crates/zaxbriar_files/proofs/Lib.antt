mod ImageIndexes
mod MachineNumbers
mod OnLiterals
mod Rules
