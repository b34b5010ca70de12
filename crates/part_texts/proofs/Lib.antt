mod TextWritten
