mod OtherRecords
mod PlainRecords
mod Worked
